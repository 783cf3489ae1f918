use Rattle.std.proofs.Common.{◌≡◌, true, rules, to_z-of_z, FitsSigned, w64}
use Rattle.sheet_types.specs.Reading.{optional_uuid_text}
use Rattle.sheet_types.specs.Texts.{uuid_text}
use Rattle.package_schema.proofs.heads.read_row.Goals as goal

pub returns-clause-some : goal.returns-clause-some
returns-clause-some c =
    let marked : c.is_marked.result ≡ true = search rules in
    let level : c.is_level.result ≡ true = search rules in
    let m = c.is_marked.ensures.0 marked in
    let name : c.args.row.now.package ≡ uuid_text c.in_ok-uuid.uuid = search rules in
    let above : c.args.row.now.parent ≡ optional_uuid_text c.in_ok-parent.parent = search rules in
    let deep : FitsSigned w64 c.args.row.now.depth = search rules in
    let lent : FitsSigned w64 c.args.row.now.loan = search rules in
    let depth = simp (to_z-of_z, deep) at c.in_ok-depth.ensures.some in
    let loan = simp (to_z-of_z, lent) at c.in_ok-loan.ensures.some in
    record {
      id = m.0;
      version = m.1;
      uuid = c.in_ok-uuid.ensures.fit;
      parent_uuid = c.in_ok-parent.ensures.fit;
      «package» = name;
      parent = above;
      depth = depth.0;
      low = depth.1;
      loan = loan.0;
      loan_low = loan.1;
      created = m.2;
      level = c.is_level.ensures.0 level;
    }

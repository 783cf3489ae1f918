use Rattle.std.proofs.Common.{rules, ◌≡◌, IsTrue}
use Rattle.std.specs.Prelude.{◌↔◌, Any}
use Rattle.store_sql.specs.Forms.{reference_of}
use Rattle.store_sql.specs.Spelling.{Names}
use Rattle.store_sql.proofs.Spelling.{any_mapped, any_unmapped}
use Rattle.store_sql.proofs.keys.is_reference_of.Goals as goal

pub returns : goal.returns
returns c =
    let any : IsTrue c.any.result ↔ Any (λ f. Names c.args.reference.now (reference_of f)) c.args.forms.now =
    search rules in (
      λ yes. record { one = any_mapped (Names c.args.reference.now) reference_of c.args.forms.now (any.0 yes) },
      λ h. any.1 (any_unmapped (Names c.args.reference.now) reference_of c.args.forms.now h.one),
    )

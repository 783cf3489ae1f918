use Rattle.std.proofs.Common.{rules, ◌≡◌, IsTrue}
use Rattle.std.specs.Prelude.{◌↔◌, Any}
use Rattle.store_sql.specs.Spelling.{IsSameKey}
use Rattle.store_sql.proofs.Spelling.{any_mapped, any_unmapped}
use Rattle.store_sql.proofs.keys.is_key_of.Goals as goal

pub returns : goal.returns
returns c =
    let any : IsTrue c.any.result ↔ Any (λ m. IsSameKey c.args.written.now m.now) c.args.forms.now =
    search rules in (
      λ yes. record { one = any_mapped (IsSameKey c.args.written.now) (λ m. m.now) c.args.forms.now (any.0 yes) },
      λ h. any.1 (any_unmapped (IsSameKey c.args.written.now) (λ m. m.now) c.args.forms.now h.one),
    )

use Rattle.std.proofs.Common.{rules, ◌≡◌, IsTrue}
use Rattle.std.specs.Prelude.{◌↔◌, Any}
use Rattle.store_sql.specs.Forms.{reference_of}
use Rattle.store_sql.specs.Spelling.{Names}
use Rattle.store_sql.proofs.keys.has_reference.Goals as goal

pub returns : goal.returns
returns c =
    let any : IsTrue c.any.result ↔ Any (λ r. Names r (reference_of c.args.form.now)) c.args.references.now =
    search rules in
    (λ yes. record { one = any.0 yes }, λ h. any.1 h.one)

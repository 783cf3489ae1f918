-- The file itself, and then those beside it; or the first alone, where it could not be removed.
use Rattle.std.proofs.Common.{[], refl, subst}
use Rattle.std.proofs.lemmas.Result.{IfOk-weaker}
use Rattle.store_folder.proofs.removing.remove_with_beside.Goals as goal

pub returns-in_err-remove_file-clause-no_other : goal.returns-in_err-remove_file-clause-no_other
returns-in_err-remove_file-clause-no_other g c = (
  c.remove_file.new.self,
  subst (λ name. g.F.RemoveFile.removes name c.args.files.now c.remove_file.new.self)
      c.as_bytes.ensures.value c.remove_file.ensures,
  ([], tt, refl),
)

pub returns-clause-no_other : goal.returns-clause-no_other
returns-clause-no_other g c = (
  c.remove_file.new.self,
  subst (λ name. g.F.RemoveFile.removes name c.args.files.now c.remove_file.new.self)
      c.as_bytes.ensures.value c.remove_file.ensures,
  c.remove_beside_each.ensures.no_other,
)

pub returns-clause-all : goal.returns-clause-all
returns-clause-all g c = IfOk-weaker c.remove_beside_each.result _ _ (λ x all. (
  c.remove_file.new.self,
  subst (λ name. g.F.RemoveFile.removes name c.args.files.now c.remove_file.new.self)
      c.as_bytes.ensures.value c.remove_file.ensures,
  all,
)) c.remove_beside_each.ensures.all

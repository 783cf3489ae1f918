-- What was found of an item in a package that was listed, and in all of them.
use Rattle.std.proofs.Common.{◌≡◌, ◌∙◌, ◌<◌, ◌+◌, ◌++◌, ◌∷◌, [], ℕ, take, get_or}
use Rattle.std.proofs.Common.{List, Bool, true, false, Option}
use Rattle.std.proofs.Common.{Some, None, Result, Ok, Err, IfOk, unwrap_or, ap, sym, subst, length, map}
use Rattle.std.specs.Bool.{then_some}
use Rattle.std.specs.List.{AllByRecursion}
use Rattle.std.proofs.lemmas.List.{take_more}
use Rattle.sheet_types.proofs.Every.{All-append}
use Rattle.sheet_types.specs.Answers.{PackageSight, holdings_answer, package_sights}
use Rattle.sheet_types.specs.World.{World, holdings, is_live}
use Rattle.sheet_types.specs.declared.command.Item.{Item}
use Rattle.sheet_types.specs.declared.command.Relation.{Relation}
use Rattle.command_verbs.specs.Names.{sight}
use Rattle.command_verbs.specs.declared.names.PackageEntry.{PackageEntry}
use Rattle.command_drops.specs.Holding.{AreLinksIn, AreLinksOf, IsHeldAmong, IsHeldIn, IsNotHeld}
use Rattle.command_drops.specs.declared.holding.Holding.{Holding}

pair_held : (b : Bool) (held found : List Item × List Relation) → Some found ≡ then_some b held → found ≡ held
pair_held true held found e = ap (λ o. unwrap_or o held) e
pair_held false held found e = absurd (cc)

links_held : (w : World) (p id : List ℕ) (found : List Item × List Relation) (links : Option (List Relation))
    → Some found ≡ holdings_answer w p
    → AreLinksOf found.0 found.1 id links → AreLinksIn w p id links
links_held w p id found links is it =
    subst (λ (h : List Item × List Relation). AreLinksOf h.0 h.1 id links)
    (pair_held (is_live w p) ((holdings w p).items, (holdings w p).links) found is) it

pub links_told : {X E : Type 0} (P : World → Type 0) (lists : X → Option (List Relation)) (p id : List ℕ)
    (items : List Item) (links : List Relation) (r : Result X E)
    → ((w : World) → P w → Some (items, links) ≡ holdings_answer w p)
    → IfOk r (λ x. AreLinksOf items links id (lists x))
    → IfOk r (λ x. (w : World) → P w → AreLinksIn w p id (lists x))
links_told P lists p id items links (Ok x) found it = λ w stands. links_held w p id (items, links) (lists x)
    (found w stands) it
links_told P lists p id items links (Err e) found it = tt

none_listed : (w : World) (id : List ℕ) (packages : List PackageEntry)
    → AllByRecursion (λ (p : PackageEntry). IsNotHeld w id p.uuid) packages
    → AllByRecursion (λ (s : PackageSight). IsNotHeld w id s.uuid) (map sight packages)
none_listed w id [] none = tt
none_listed w id (p ∷ packages) none = (none.0, none_listed w id packages none.1)

-- what was found among all that live was found in the world
pub held_in : (w : World) (id : List ℕ) (packages : List PackageEntry) (found : Option Holding)
    → map sight packages ≡ package_sights w
    → IsHeldAmong w packages id found → IsHeldIn w id found
held_in w id packages (Some h) are it = it
held_in w id packages None are none = subst (AllByRecursion (λ (s : PackageSight). IsNotHeld w id s.uuid)) are
    (none_listed w id packages none)

-- one more package of a list
pub none_more : (P : PackageEntry → Type 0) (packages : List PackageEntry) (i : ℕ) (p : PackageEntry)
    → i < length packages → p ≡ get_or packages i p
    → AllByRecursion P (take i packages) → P p → AllByRecursion P (take (i + 1) packages)
none_more P packages i p within is so_far here =
    subst (AllByRecursion P) (ap (λ z. take i packages ++ z ∷ []) is ∙ sym (take_more packages i p within))
    (All-append P (take i packages) (p ∷ []) so_far (here, tt))

-- What a crash leaves of a world at rest is opened as its stores.
use Rattle.std.specs.Prelude.{◌≡◌, List, [], ◌∷◌, ◌++◌, map, IsTrue}
use Rattle.std.proofs.Common.{sym, ap, subst, ◌∙◌}
use Rattle.std.proofs.lemmas.List.{append-nil}
use Rattle.std.proofs.lemmas.List.Elements.{recursion_from_All}
use Rattle.std.specs.List.{AllByRecursion, AllZip}
use Rattle.sqlite.specs.Effect.{Database}
use Rattle.sqlite.specs.Held.{Held, state}
use Rattle.sqlite.specs.State.{IsLive}
use Rattle.sqlite.specs.Store.{Ghosts}
use Rattle.sqlite.specs.Tree.{Trees}
use Rattle.sqlite_catalog.specs.Listing.{IsSound}
use Rattle.sqlite_trees.proofs.ListLemmas.{IsPermutation-same}
use Rattle.sheet_types.specs.World.{World, Package}
use Rattle.store_sql.specs.Transactions.{IsAdopted, Rests}
use Rattle.store_sql.proofs.Schemas.{sound_alone}
use Rattle.store_sql.proofs.Transactions.{Settles}
use Rattle.identity_register.specs.Reads.{Reads}
use Rattle.world_members.specs.Members.{IsMember}
use Rattle.world_members.specs.declared.members.Member.{Member}
use Rattle.opening_laws.specs.Laws.{RestSurvives}
use Rattle.opening_laws.specs.Stores.{IsStoreOf}

module _ {S : Type 0} (g : Ghosts S) (settles : Settles g) where
  -- a store that is opened from what a crash left of one at rest shows the same
  same_again : (a b : Held S) (trees : Trees) → IsTrue (state g a).is_open → Rests (state g a)
      → IsLive (state g a)
      → (state g a).may_leave trees → IsAdopted (state g b) trees → (state g a).now ≡ (state g b).now
  same_again a b trees is_open rests live left adopted =
      let now : (state g a).now.trees ≡ (state g b).now.trees =
      ap (λ (db : Database). db.trees) (rests.settled is_open) ∙ sym (settles a.store trees is_open left)
      ∙ sym adopted.trees_are in
      let own : IsSound (state g a).now.schema (state g b).now.trees =
      subst (IsSound (state g a).now.schema) now (live is_open).0 in
      let schema : (state g a).now.schema ≡ (state g b).now.schema =
      sound_alone (state g a).now.schema (state g b).now.schema (state g b).now.trees own adopted.sound in
      λ n. record { schema = schema n; trees = now n }

  again : (w : World) (ms : List (Member S)) (ps : List Package) (contents : List Trees) (stores : List (Held S))
      → AllByRecursion (λ m. Rests (state g m.conn)) ms → AllByRecursion (λ m. IsTrue (state g m.conn).is_open) ms
      → AllByRecursion (λ m. IsLive (state g m.conn)) ms → AllZip (IsMember g w) ms ps
      → AllZip (λ h trees. (state g h).may_leave trees) (map (λ m. m.conn) ms) contents
      → AllZip (λ h trees. IsAdopted (state g h) trees) stores contents → AllZip (IsStoreOf g w) stores ps
  again w [] [] [] [] rests opens lives each left adopted = tt
  again w [] [] [] (h ∷ stores) rests opens lives each left adopted = absurd adopted
  again w [] [] (t ∷ contents) stores rests opens lives each left adopted = absurd left
  again w [] (p ∷ ps) contents stores rests opens lives each left adopted = absurd each
  again w (m ∷ ms) [] contents stores rests opens lives each left adopted = absurd each
  again w (m ∷ ms) (p ∷ ps) [] stores rests opens lives each left adopted = absurd left
  again w (m ∷ ms) (p ∷ ps) (t ∷ contents) [] rests opens lives each left adopted = absurd adopted
  again w (m ∷ ms) (p ∷ ps) (t ∷ contents) (h ∷ stores) rests opens lives each left adopted =
      let same : (state g m.conn).now ≡ (state g h).now = same_again m.conn h t opens.0 rests.0 lives.0 left.0
      adopted.0 in (
        (λ _. subst (λ (db : Database). Reads w.frame p db) same (each.0.reads opens.0)),
        again w ms ps contents stores rests.1 opens.1 lives.1 each.1 left.1 adopted.1,
      )

  pub rest_survives : RestSurvives g
  rest_survives seen w contents stores is_held usable stands opens lives left adopted =
      let conns : List (Held S) = map (λ m. m.conn) seen.members in
      let strays : seen.strays ≡ [] = is_held.none usable in
      let may : AllZip (λ h trees. (state g h).may_leave trees) conns contents =
      subst (λ l. AllZip (λ h trees. (state g h).may_leave trees) (l ++ conns) contents) strays left in (
        record {
          members = stores;
          others = [];
          all = IsPermutation-same stores (stores ++ []) (sym (append-nil stores));
          each = again w seen.members w.packages contents stores
              (recursion_from_All (λ m. Rests (state g m.conn)) seen.members is_held.rests)
              (recursion_from_All (λ m. IsTrue (state g m.conn).is_open) seen.members opens) lives
              stands.members.each may adopted;
          beside = tt;
        },
        tt,
      )

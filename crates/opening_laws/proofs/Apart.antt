-- What is handed out beside a world that was opened are the strays.
use Rattle.std.specs.Prelude.{◌⊎◌, false, List, ◌++◌}
use Rattle.std.proofs.Common.{sym, subst, ◌∙◌, inl, inr}
use Rattle.std.proofs.lemmas.Bool.{true≢false}
use Rattle.sqlite.specs.Effect.{Database}
use Rattle.sqlite.specs.Held.{Held, state}
use Rattle.sqlite.specs.Store.{Ghosts}
use Rattle.sheet_types.specs.World.{World, Package}
use Rattle.sheet_types.proofs.Every.{All-both}
use Rattle.sheet_types.proofs.Same.{In, All-In, In-of_append}
use Rattle.identity_register.specs.Reads.{Reads}
use Rattle.identity_register.proofs.Finding.{contained}
use Rattle.sheet_laws.specs.Laws.{StoreSight}
use Rattle.opening.specs.Recovered.{IsApart, IsOpened, IsReadOf}
use Rattle.opening_laws_model.specs.Beside.{AreViewsOfWorld}
use Rattle.opening_laws_model.specs.Timely.{IsInBounds}
use Rattle.opening_laws_model.proofs.Bounds.{packages_are_in_bounds}
use Rattle.opening_laws_model.proofs.Found.{member_found}
use Rattle.opening_laws_model.proofs.Seen.{In-permuted, zip_left}
use Rattle.opening_laws.specs.Laws.{StraysAreTold, IsKeptWorld}
use Rattle.opening_laws.specs.Stores.{IsStoreOf, IsStrayStore, SaysUnknown, AreStoresOf}
use Rattle.opening_laws.proofs.AllViews.{views_of_stores}
use Rattle.opening_laws.proofs.OneView.{view_of_kept}

module _ {S : Type 0} (g : Ghosts S) (w : World) (kept : IsKeptWorld w) (stores : List (Held S))
    (of : AreStoresOf g stores w) where
  -- a store is one of a package, or a stray
  store_role : (h : Held S) → In h stores → ((p : Package) × In p w.packages × IsStoreOf g w h p)
      ⊎ IsStrayStore g w h
  store_role h i = elim (In-of_append h of.members of.others
      (In-permuted h stores (of.members ++ of.others) of.all i)) [
        | inl m ↦ inl (zip_left (IsStoreOf g w) h of.members w.packages of.each m)
        | inr o ↦ inr (All-In (IsStrayStore g w) h of.others of.beside o)
      ]

  -- one that was read, and of which a right view is not live, is a stray
  apart_is_stray : (views : List StoreSight) → AreViewsOfWorld views w → (h : Held S) → IsReadOf g stores h
      → IsApart g views h → IsStrayStore g w h
  apart_is_stray views seen h (was, there, stay) (v, among, opened, right, dead) is_open =
      elim (store_role was (contained stores was there)) [
        | inl s ↦
            let reads : Reads w.frame s.0 (state g h).now = subst (λ (db : Database). Reads w.frame s.0 db)
            (sym (stay.holds is_open).now_is) (s.2 (stay.was_open is_open)) in
            let view = view_of_kept w s.0 (state g h).now v (All-In _ s.0 w.packages kept.0.packages s.1)
            (All-In IsInBounds s.0 w.packages (packages_are_in_bounds w kept.0 kept.1) s.1) reads right in
            absurd (true≢false (sym (member_found w kept.0 views seen s.0 v s.1 (contained views v among) view)
            ∙ dead))
        | inr stray ↦ subst (SaysUnknown w) (sym (stay.holds is_open).now_is) (stray (stay.was_open is_open))
      ]

module _ {S : Type 0} (g : Ghosts S) where
  pub strays_are_told : StraysAreTold g
  strays_are_told w stores found kept of is clean =
      let opened : IsOpened g stores found = is.opened clean in
      let seen : AreViewsOfWorld opened.views w = views_of_stores g w stores opened.views kept of opened.right in
      All-both (IsReadOf g stores) (IsApart g opened.views) (IsStrayStore g w)
      (apart_is_stray g w kept stores of opened.views seen) found.strays.items is.strays_read opened.apart

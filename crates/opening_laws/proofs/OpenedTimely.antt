-- The receipts of a world that was opened say moments.
use Rattle.std.specs.Prelude.{◌≡◌, ◌≤◌, ℕ, true, List, [], ◌∷◌, ◌++◌, map, filter, flat_map}
use Rattle.std.specs.Prelude.{length, IsTrue}
use Rattle.std.specs.List.{AllZip, AllByRecursion}
use Rattle.std.proofs.Common.{sym, ap, subst, arith, inl, inr}
use Rattle.std.proofs.lemmas.List.Elements.{All-from_recursion, recursion_from_All}
use Rattle.std.proofs.lemmas.List.Sorted.{All-permutation, IsPermutation-sym}
use Rattle.sqlite.specs.Effect.{Database}
use Rattle.sqlite.specs.Held.{Held, state}
use Rattle.sqlite.specs.Store.{Ghosts}
use Rattle.sheet_types.specs.Ordered.{arranged}
use Rattle.sheet_types.specs.Register.{IsRegister}
use Rattle.sheet_types.specs.Texts.{is_moment}
use Rattle.sheet_types.specs.World.{World, Package, package_key, receipt_key, receipts_of}
use Rattle.sheet_types.specs.declared.receipt.Receipt.{Receipt}
use Rattle.sheet_types.proofs.Every.{All-both, All-filter, All-flat_map, All-map, All-of_map, All-weaker}
use Rattle.sheet_types.proofs.Order.{All-arranged}
use Rattle.sheet_laws.specs.Laws.{StoreSight, StoresStandFor}
use Rattle.package_tables.specs.declared.rows.ReceiptRow.{ReceiptRow}
use Rattle.package_tables.specs.declared.rows.MovedRow.{MovedRow}
use Rattle.package_tables.proofs.Reading.{arranged_permutation}
use Rattle.package_tables.specs.Shapes.{receipt_shape}
use Rattle.identity_register.specs.Reads.{SaysReceipts, receipt_row}
use Rattle.package_receipts.specs.Ranges.{IsReceiptInRange}
use Rattle.opening_v1.specs.Either.{IsViewAtEither}
use Rattle.opening_verdict.specs.Views.{is_live_view, live_views}
use Rattle.opening_laws_model.specs.Timely.{IsTimely}
use Rattle.opening_laws.specs.Laws.{OpenedIsTimely}

abbrev SaysMoment : Receipt → Type 0
SaysMoment r = is_moment r.at ≡ true

abbrev HasTimes : Package → Type 0
HasTimes p = AllByRecursion SaysMoment p.receipts

-- rows in their ranges are those of receipts that say moments
rows_time : (entered kept : List Receipt) (rows : List ReceiptRow) (moved : List MovedRow)
    → SaysReceipts entered kept rows moved → AllByRecursion IsReceiptInRange rows → AllByRecursion SaysMoment kept
rows_time entered kept rows moved says in_range =
    let written : List ReceiptRow = map receipt_row entered in
    let there : AllByRecursion IsReceiptInRange (arranged receipt_shape.key written) =
    subst (AllByRecursion IsReceiptInRange) says.receipts in_range in
    let each : AllByRecursion IsReceiptInRange written =
    recursion_from_All IsReceiptInRange written
    (All-permutation IsReceiptInRange (arranged receipt_shape.key written) written
    (IsPermutation-sym written (arranged receipt_shape.key written)
    (arranged_permutation receipt_shape.key written)) (All-from_recursion IsReceiptInRange
    (arranged receipt_shape.key written) there)) in
    let said : AllByRecursion SaysMoment entered = All-weaker (λ r. IsReceiptInRange (receipt_row r)) SaysMoment
    (λ r row. row.at) entered (All-of_map IsReceiptInRange receipt_row entered each) in
    subst (AllByRecursion SaysMoment) (sym says.kept) (All-arranged receipt_key SaysMoment entered said)

-- a right view of a package has them
view_times : (db : Database) (v : StoreSight) → IsViewAtEither db v → v.is_formed ≡ true → v.is_tied ≡ true
    → HasTimes v.reads_as
view_times db v (inl first) formed tied = let says = (first.1.reads formed tied).says.says in rows_time says.entered
    v.reads_as.receipts _ _ says.of_receipts (first.1.frame formed).receipts.rows
view_times db v (inr second) formed tied = let says = (second.1.reads formed tied).says in rows_time says.entered
    v.reads_as.receipts _ _ says.of_receipts (second.1.frame formed).receipts.rows

abbrev HasTimesWhereSound : StoreSight → Type 0
HasTimesWhereSound v = v.is_formed ≡ true → v.is_tied ≡ true → HasTimes v.reads_as

module _ {S : Type 0} (g : Ghosts S) where
  all_times : (stores : List (Held S)) (views : List StoreSight)
      → AllZip (λ h v. IsTrue (state g h).is_open × IsViewAtEither (state g h).now v) stores views
      → AllByRecursion HasTimesWhereSound views
  all_times [] [] right = tt
  all_times [] (v ∷ views) right = absurd right
  all_times (h ∷ stores) [] right = absurd right
  all_times (h ∷ stores) (v ∷ views) right = (
    view_times (state g h).now v right.0.1,
    all_times stores views
        right.1,
  )

  pub opened_is_timely : OpenedIsTimely g
  opened_is_timely stores found is clean low =
      let opened = is.opened clean in
      let w : World = opened.world in
      let stand : StoresStandFor opened.views w = opened.stand in
      let lives : List StoreSight = live_views opened.views in
      let timed : AllByRecursion HasTimesWhereSound lives = All-filter HasTimesWhereSound (is_live_view opened.views)
      opened.views (all_times stores opened.views opened.right) in
      let formed : AllByRecursion (λ v. v.is_tied ≡ true → HasTimes v.reads_as) lives =
      All-both (λ v. v.is_formed ≡ true) HasTimesWhereSound (λ v. v.is_tied ≡ true → HasTimes v.reads_as)
      (λ v f t. t f) lives stand.in_order.formed timed in
      let tied : AllByRecursion (λ v. HasTimes v.reads_as) lives =
      All-both (λ v. v.is_tied ≡ true) (λ v. v.is_tied ≡ true → HasTimes v.reads_as)
      (λ v. HasTimes v.reads_as) (λ v f t. t f) lives stand.in_order.tied formed in
      let packages : AllByRecursion HasTimes w.packages =
      subst (AllByRecursion HasTimes) (sym (ap (λ x. x.packages) stand.read_as.2))
      (All-arranged package_key HasTimes (map (λ v. v.reads_as) lives)
      (All-map HasTimes (λ v. v.reads_as) lives tied)) in
      record {
        moments = All-arranged receipt_key SaysMoment (flat_map (λ p. p.receipts) w.packages)
            (All-flat_map SaysMoment (λ p. p.receipts) w.packages packages);
        counted = omega (arith, opened.is.members.counted, low);
      }

-- Each record that is a request is one more; the first that is none is the cause of the whole list.
use Rattle.std.proofs.Common.{◌≡◌, ◌+◌, ◌++◌, ◌∷◌, [], None, ap, length, map, refl, inl, arith}
use Rattle.std.proofs.Common.{rules}
use Rattle.std.proofs.lemmas.List.{append_assoc, length-map, length-append, map-append}
use Rattle.std.proofs.lemmas.Slice.Zip.{all_zipped_more}
use Rattle.std.specs.Vec.Iter.{into_iter_items}
use Rattle.csv.specs.Records.{fields_of}
use Rattle.request_csv.specs.RequestLists.{Asks}
use Rattle.request_csv.specs.declared.causes.ListFault.TheVariants.{Record}
use Rattle.request_csv.proofs.CauseFacts.{cause_after}
use Rattle.request_csv.proofs.causes.cause_in.Goals as goal

pub returns-in-Some-2-clause-some : goal.returns-in-Some-2-clause-some
returns-in-Some-2-clause-some c =
    let inv = c.loop-row.invariant in
    let before = map fields_of c.loop-row.yielded in
    let next : into_iter_items c.loop-row.row-iterator ≡ c.in-Some.row ∷ into_iter_items c.next.new.self =
    search rules in
    let whole : map fields_of (into_iter_items c.args.rows) ≡ map fields_of c.loop-row.yielded
    ++ (fields_of c.in-Some.row ∷ map fields_of (into_iter_items c.next.new.self)) =
    rw (inv.whole, next) (map-append fields_of c.loop-row.yielded _) in
    let more : c.in-Some-checked_add.number ≡ c.loop-row.so_far + 1 = search rules in
    let counted : c.loop-row.so_far ≡ length c.loop-row.yielded = inv.counted in
    let long : length before ≡ length c.loop-row.yielded = length-map c.loop-row.yielded fields_of in
    let number : c.in-Some-checked_add.number ≡ 1 + length before = omega (arith, more, counted, long) in
    let fault = rw c.in-Some-2.is at c.in_ok-fault.ensures.some in
    rw whole (cause_after 1 before inv.asked.0 _ _ inv.asked.1
    (inl (c.in-Some-2.fault, ap (λ n. Record n c.in-Some-2.fault) number, fault)))

pub loop-row-preserved : goal.loop-row-preserved
loop-row-preserved c =
    let inv = c.loop-row.invariant in
    let next : into_iter_items c.loop-row.row-iterator ≡ c.in-Some.row ∷ into_iter_items c.next.new.self =
    search rules in
    let more : c.in-Some-checked_add.number ≡ c.loop-row.so_far + 1 = search rules in
    let counted : c.loop-row.so_far ≡ length c.loop-row.yielded = inv.counted in
    let long : length (c.loop-row.yielded ++ (c.in-Some.row ∷ [])) ≡ length c.loop-row.yielded + 1 =
    length-append c.loop-row.yielded (c.in-Some.row ∷ []) in
    let none : c.in_ok-fault.field-0 ≡ None = search rules in
    let asked = rw none at c.in_ok-fault.ensures.none in
    record {
      whole = rw (
        inv.whole,
        next,
        append_assoc c.loop-row.yielded (c.in-Some.row ∷ [])
            (into_iter_items c.next.new.self),
      ) refl;
      counted = omega (arith, more, counted, long);
      asked = (
        inv.asked.0 ++ (asked.0 ∷ []),
        rw (map-append fields_of c.loop-row.yielded (c.in-Some.row ∷ []))
            (all_zipped_more Asks _ _ _ _ inv.asked.1 asked.1),
      );
    }

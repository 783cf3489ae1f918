-- Each record that is a request is one more; the first that is none is the fault of the whole list.
use Rattle.std.proofs.Common.{rules, ◌≡◌, ◌++◌, ◌∷◌, [], map, true, refl}
use Rattle.std.proofs.lemmas.Result.{err_from_is_err_and}
use Rattle.std.specs.Result.{is_ok}
use Rattle.std.specs.Vec.Iter.{into_iter_items}
use Rattle.std.proofs.lemmas.List.{append_assoc, map-append}
use Rattle.std.proofs.lemmas.Slice.Zip.{all_zipped_more}
use Rattle.csv.specs.Records.{fields_of}
use Rattle.request_csv.specs.RequestLists.{Asks}
use Rattle.request_csv.proofs.ListFacts.{fault_met}
use Rattle.request_csv.proofs.lists.requests_in.Goals as goal

pub returns-in_err-request-clause-fault : goal.returns-in_err-request-clause-fault
returns-in_err-request-clause-fault c =
    let inv = c.loop-row.invariant in
    let met = c.in_err-request.field-0.0 in
    let next : into_iter_items c.loop-row.row-iterator ≡ c.in-Some.row ∷ into_iter_items c.next.new.self =
    search rules in
    let whole : map fields_of (into_iter_items c.args.rows) ≡ map fields_of c.loop-row.yielded
    ++ (fields_of c.in-Some.row ∷ map fields_of (into_iter_items c.next.new.self)) =
    rw (inv.whole, next) (map-append fields_of c.loop-row.yielded _) in
    let fault = fault_met (map fields_of c.loop-row.yielded) c.loop-row.requests.items c.len.result
    (fields_of c.in-Some.row) _ _ met inv.asked (search rules) whole c.in_err-request.ensures.fault in
    let exit = err_from_is_err_and c.from_residual.result c.from_residual.ensures.1 in
    rw (exit.1, exit.2) fault

pub loop-row-preserved : goal.loop-row-preserved
loop-row-preserved c =
    let inv = c.loop-row.invariant in
    let good : is_ok c.push.result ≡ true = search rules in
    let items = rw good at c.push.ensures.items in
    let next : into_iter_items c.loop-row.row-iterator ≡ c.in-Some.row ∷ into_iter_items c.next.new.self =
    search rules in
    record {
      whole = rw (
        inv.whole,
        next,
        append_assoc c.loop-row.yielded (c.in-Some.row ∷ [])
            (into_iter_items c.next.new.self),
      ) refl;
      asked = rw (items, map-append fields_of c.loop-row.yielded (c.in-Some.row ∷ []))
          (all_zipped_more Asks _ _ _ _ inv.asked c.in_ok-request.ensures.asks);
    }

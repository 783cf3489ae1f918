-- A connection asks one call at most.
use Rattle.std.proofs.Common.{◌≡◌, ◌∙◌, ℕ, Bool, true, false, List, [], ◌++◌, Option, Some, None}
use Rattle.std.proofs.Common.{map, take, refl, sym, ap}
use Rattle.std.proofs.Common.{arith, inl, inr, codes}
use Rattle.std.specs.Prelude.{bytes_eq}
use Rattle.std.proofs.lemmas.List.{append_cancel_left, append_cancel_right}
use Rattle.uuid.specs.Text.{parsed_hyphenated}
use Rattle.httparse.proofs.GrammarLemmas.{request_unique}
use Rattle.httparse.specs.Grammar.{RequestHead}
use Rattle.httparse.specs.Spans.{name_and_value}
use Rattle.request_json.proofs.OneRequest.{one_request}
use Rattle.sheet_types.proofs.Basics.{None≢Some}
use Rattle.desk_calls.specs.Calls.{BodyAsks, HeadAsks, IsCall, MethodAsks, NamesBetween, PathAsks, RestAsks}
use Rattle.desk_calls.specs.Calls.{RouteAsks, SenderAsks, method_of, sender_passes}
use Rattle.desk_calls.specs.Heads.{path_of, route_of}
use Rattle.desk_calls.specs.declared.calls.Asked.{Asked}
use Rattle.desk_calls.specs.declared.calls.Asked.TheVariants.{Now, Body}
use Rattle.desk_calls.specs.declared.calls.Call.{Call}
use Rattle.desk_calls.specs.declared.calls.Call.TheVariants.{Refused, Apply, Packages, Manifest, Receipt}
use Rattle.desk_calls.specs.declared.routes.Route.{Route}
use Rattle.desk_calls.specs.declared.routes.Route.TheVariants as route

one_named : (front back path : List ℕ) (a b : Option (List ℕ)) → NamesBetween front back path a
    → NamesBetween front back path b → a ≡ b
one_named front back path None None x y = refl
one_named front back path None (Some id) none (text, e, f) = absurd (None≢Some (sym (none text e) ∙ f))
one_named front back path (Some id) None (text, e, f) none = absurd (None≢Some (sym (none text e) ∙ f))
one_named front back path (Some id) (Some other) (text, e, f) (again, g, h) =
    let same : text ≡ again = append_cancel_right text again back
    (append_cancel_left front (text ++ back) (again ++ back) (sym e ∙ g)) in
    sym f ∙ ap parsed_hyphenated same ∙ h

by_route : (to : Route) (h : RequestHead) (a b : Asked) → RouteAsks to h a → RouteAsks to h b → a ≡ b
by_route route.Requests h a b x y = x ∙ sym y
by_route route.Packages h a b x y = x ∙ sym y
by_route route.Manifest h a b (id, is, named) (other, also, called) =
    is ∙ ap (λ i. Now (Manifest i)) (one_named (codes "/packages/") (codes "/manifest") (path_of h.target) id other
    named called) ∙ sym also
by_route route.Receipt h a b (id, is, named) (other, also, called) =
    is ∙ ap (λ i. Now (Receipt i)) (one_named (codes "/receipts/") [] (path_of h.target) id other named called)
    ∙ sym also

by_method : (is_so : Bool) (to : Route) (h : RequestHead) (a b : Asked) → MethodAsks is_so to h a
    → MethodAsks is_so to h b → a ≡ b
by_method true to h a b x y = by_route to h a b x y
by_method false to h a b x y = x ∙ sym y

by_path : (to : Option Route) (h : RequestHead) (a b : Asked) → PathAsks to h a → PathAsks to h b → a ≡ b
by_path None h a b x y = x ∙ sym y
by_path (Some to) h a b x y = by_method (bytes_eq h.method (method_of to)) to h a b x y

by_sender : (passes : Bool) (h : RequestHead) (a b : Asked) → SenderAsks passes h a → SenderAsks passes h b
    → a ≡ b
by_sender true h a b x y = by_path (route_of (path_of h.target)) h a b x y
by_sender false h a b x y = x ∙ sym y

one_asked : (own : List ℕ) (h : RequestHead) (a b : Asked) → HeadAsks own h a → HeadAsks own h b → a ≡ b
one_asked own h a b x y = by_sender (sender_passes own (map name_and_value h.fields)) h a b x y

one_of_body : (body : List ℕ) (a b : Call) → BodyAsks body a → BodyAsks body b → a ≡ b
one_of_body body (Refused flaw) (Refused other) (is, none) (also, nor) = ap Refused (is ∙ sym also)
one_of_body body (Refused flaw) (Apply request) (is, none) y = absurd (none request y)
one_of_body body (Apply request) (Refused flaw) x (is, none) = absurd (none request x)
one_of_body body (Apply request) (Apply other) x y = ap Apply (one_request body request other x y)
one_of_body body Packages b x y = absurd x
one_of_body body (Manifest id) b x y = absurd x
one_of_body body (Receipt id) b x y = absurd x
one_of_body body (Refused flaw) Packages x y = absurd y
one_of_body body (Refused flaw) (Manifest id) x y = absurd y
one_of_body body (Refused flaw) (Receipt id) x y = absurd y
one_of_body body (Apply request) Packages x y = absurd y
one_of_body body (Apply request) (Manifest id) x y = absurd y
one_of_body body (Apply request) (Receipt id) x y = absurd y

one_of_rest : (asked : Asked) (rest : List ℕ) (a b : Call) → RestAsks asked rest a → RestAsks asked rest b
    → a ≡ b
one_of_rest (Now call) rest a b x y = x ∙ sym y
one_of_rest (Body size) rest a b (inl (short, is)) (inl (shorter, also)) = is ∙ sym also
one_of_rest (Body size) rest a b (inl (short, is)) (inr (enough, asks)) = absurd (omega arith)
one_of_rest (Body size) rest a b (inr (enough, asks)) (inl (short, is)) = absurd (omega arith)
one_of_rest (Body size) rest a b (inr (enough, asks)) (inr (again, also)) = one_of_body (take size rest) a b asks also

pub one_call : (own xs : List ℕ) (a b : Call) → IsCall own xs a → IsCall own xs b → a ≡ b
one_call own xs a b (inl (some, none, is)) (inl (more, nor, also)) = is ∙ sym also
one_call own xs a b (inl (some, none, is)) (inr (h, rest, head, asked, asks, tail)) = absurd (none h rest head)
one_call own xs a b (inr (h, rest, head, asked, asks, tail)) (inl (some, none, is)) = absurd (none h rest head)
one_call own xs a b (inr (h, rest, head, asked, asks, more)) (inr (k, tail, front, other, also, then_)) =
    let same = request_unique xs h k rest tail head.reads front.reads in
    let one : asked ≡ other = one_asked own k asked other (rw same.0 at asks) also in
    one_of_rest other tail a b (rw (one, same.1) at more) then_

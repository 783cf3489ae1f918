-- A request that is ready is not refused.
use Rattle.std.specs.Prelude.{◌≡◌, ◌≤◌, ◌+◌, ℕ, Bool, true, false, cond, not, ◌&&◌, ◌||◌}
use Rattle.std.specs.Prelude.{nat_lt, List, [], ◌∷◌, ◌++◌}
use Rattle.std.specs.Prelude.{map, find, length, Option, Some, None, Ok, bytes_eq, unwrap_or, refl}
use Rattle.std.proofs.Common.{sym, ap, subst, ◌∙◌, inl, inr, arith, append_assoc, drop}
use Rattle.std.proofs.lemmas.Bool.{or_parts, le-ltb}
use Rattle.std.proofs.lemmas.List.{length-append, length-map, map-append}
use Rattle.std.specs.Bool.{then_some}
use Rattle.std.specs.List.{list_any, AllByRecursion}
use Rattle.std.specs.Option.{option_and_then, option_map_or}
use Rattle.sheet_types.specs.Custody.{kept}
use Rattle.sheet_types.specs.Cut.{has_end}
use Rattle.sheet_types.specs.Matrix.{first_row, has_place, in_frame}
use Rattle.sheet_types.specs.Ordered.{has, is_among}
use Rattle.sheet_types.specs.Refuse.{reasons, id_reused, bad_text, bad_place, out_of_frame, is_at, takes_place}
use Rattle.sheet_types.specs.Refuse.{is_overfull, too_many, greatest_packages, greatest_receipts}
use Rattle.sheet_types.specs.Register.{IsRegister}
use Rattle.sheet_types.specs.Step.{Run, accepted, receipt_of, kept_reply, refuses, outcome_by, relation}
use Rattle.sheet_types.specs.Texts.{line, is_moment}
use Rattle.sheet_types.specs.World.{World, Package, no_package, holdings, is_live, receipts_of, item_key, link_key}
use Rattle.sheet_types.specs.World.{kind_number, base_kind, other_kind, has_item, has_kind, changed}
use Rattle.sheet_types.specs.declared.command.Command.{Command}
use Rattle.sheet_types.specs.declared.command.Command.TheVariants.{Add, Delete, Link, Unlink, Split, Merge}
use Rattle.sheet_types.specs.declared.command.Content.{Content}
use Rattle.sheet_types.specs.declared.command.Content.TheVariants.{Tile, Media, Row}
use Rattle.sheet_types.specs.declared.command.Item.{Item}
use Rattle.sheet_types.specs.declared.command.Relation.{Relation}
use Rattle.sheet_types.specs.declared.command.Request.{Request}
use Rattle.sheet_types.specs.declared.receipt.MovedKind.{MovedKind}
use Rattle.sheet_types.specs.declared.receipt.Receipt.{Receipt}
use Rattle.sheet_types.proofs.Every.{none_pass, none_any}
use Rattle.sheet_types.proofs.Found.{not_found, any_implies}
use Rattle.std.proofs.lemmas.Slice.Eq.{bytes_eq-Decides}
use Rattle.sheet_laws.proofs.Keeping.{all_live_at}
use Rattle.sheet_laws.proofs.Packages.{by_place, at_all, All-changed, each_found, receipts_gained, with_receipt_gains}
use Rattle.sheet_laws.proofs.Running.{step_keeps_register}
use Rattle.sheet_laws.proofs.Shifting.{numbers_below}
use Rattle.field_run_laws.specs.Lists.{Reply, IsWithin, AreWithin, is_kept, has_twice, items_after, links_after}
use Rattle.field_run_laws.specs.Lists.{IsUnrefused}
use Rattle.field_run_laws.specs.Ready.{package_of, IsReady, AreReady, ReadyRunIsUnrefused}
use Rattle.field_run_laws.proofs.Held.{Stage, begins, change, carried, one_more, still_new, all_added, all_added_more}
use Rattle.field_run_laws.proofs.Held.{gained_length}
use Rattle.field_run_laws.proofs.Keys.{apart_from}

-- where each test fails, no row of a table passes
rows_pass : {X : Type 0} (rows : List (Bool × X)) → AllByRecursion (λ row. row.0 ≡ false) rows
    → first_row rows ≡ None
rows_pass [] h = refl
rows_pass (row ∷ rows) h = ap (λ b. cond b (Some row.1) (first_row rows)) h.0 ∙ rows_pass rows h.1

or_false : (a b : Bool) → a ≡ false → b ≡ false → (a || b) ≡ false
or_false a b e f = ap (λ x. x || b) e ∙ f

module _ (w m : World) (p : List ℕ) (done : List Request) (items : List Item) (links : List Relation)
    (live : is_live w p ≡ true) (s : Stage w m p done items links)
    (few : too_many w ≡ false) (within_now : is_overfull (package_of items links) ≡ false) where
  abbrev Full : Package → Type 0
  Full x = is_overfull x ≡ false

  before_parts : ((list_any is_overfull w.packages || nat_lt greatest_packages (length w.packages)) ≡ false)
      × (nat_lt greatest_receipts (length (receipts_of w)) ≡ false)
  before_parts = or_parts (list_any is_overfull w.packages || nat_lt greatest_packages (length w.packages))
      (nat_lt greatest_receipts (length (receipts_of w))) few

  packages_parts : (list_any is_overfull w.packages ≡ false)
      × (nat_lt greatest_packages (length w.packages) ≡ false)
  packages_parts = or_parts (list_any is_overfull w.packages) (nat_lt greatest_packages (length w.packages))
      before_parts.0

  -- each package is within its limits
  all_within : AllByRecursion Full m.packages
  all_within = all_live_at m Full s.register.arranged (by_place p (λ q. is_live m q ≡ true → Full (holdings m q))
      (λ _. ap (λ l. is_overfull (record (holdings m p) { items = l })) s.items_are
      ∙ ap (λ l. is_overfull (record (holdings m p) { items = items; links = l })) s.links_are ∙ within_now)
      (λ q other alive. subst Full (sym (s.others q other)) (at_all w Full q
      (none_pass is_overfull w.packages packages_parts.0) (sym (s.lives q) ∙ alive)).0))

  -- and so is the world behind one request more
  limits : (q : Request) → IsWithin p q.command → is_overfull
      (package_of (items_after q.command items) (links_after q.command links)) ≡ false
      → length (receipts_of w) + length done + 1 ≤ greatest_receipts → too_many (accepted m q) ≡ false
  limits q within full room =
      let r : Receipt = receipt_of m q in
      let f : Package → Package = change r q.command in
      let is : accepted m q ≡ changed f p m = carried m r p q.command within in
      let here : is_live m p ≡ true = s.lives p ∙ live in
      let gains : receipts_of (changed f p m) ≡ receipts_of m ++ r ∷ [] =
      receipts_gained f m p r (λ x below. with_receipt_gains r x below)
      (numbers_below m r.seq s.register.balanced.ledger refl) s.register.arranged here in
      let long : length (receipts_of (changed f p m)) ≡ length (receipts_of w) + length done + 1 =
      ap length gains ∙ length-append (receipts_of m) (r ∷ [])
      ∙ ap (λ n. n + 1) (ap length s.receipts ∙ length-append (receipts_of w) s.gained
      ∙ ap (λ n. length (receipts_of w) + n) (gained_length w m p done items links s)) in
      let count : length (changed f p m).packages ≡ length w.packages =
      length-map m.packages (λ x. cond (bytes_eq x.uuid p) (f x) x) ∙ s.packages in
      let each : AllByRecursion Full (changed f p m).packages =
      All-changed f p (λ x. Full x × (find (λ y. bytes_eq y.uuid x.uuid) m.packages ≡ Some x)) Full
      (λ x same both. at_p x same both.1) (λ x both. both.0) m.packages pairs in
      subst (λ v. too_many v ≡ false) (sym is)
      (or_false (list_any is_overfull (changed f p m).packages || nat_lt greatest_packages
      (length (changed f p m).packages)) (nat_lt greatest_receipts (length (receipts_of (changed f p m))))
      (or_false (list_any is_overfull (changed f p m).packages)
      (nat_lt greatest_packages (length (changed f p m).packages))
      (none_any is_overfull (changed f p m).packages each)
      (ap (nat_lt greatest_packages) count ∙ packages_parts.1))
      (ap (nat_lt greatest_receipts) long ∙ le-ltb greatest_receipts (length (receipts_of w) + length done + 1) room))
    where
      pairs : AllByRecursion (λ x. Full x × (find (λ y. bytes_eq y.uuid x.uuid) m.packages ≡ Some x)) m.packages
      pairs = both m.packages all_within (each_found m.packages s.register.arranged)
        where
          both : (ps : List Package) → AllByRecursion Full ps
              → AllByRecursion (λ x. find (λ y. bytes_eq y.uuid x.uuid) m.packages ≡ Some x) ps
              → AllByRecursion (λ x. Full x × (find (λ y. bytes_eq y.uuid x.uuid) m.packages ≡ Some x)) ps
          both [] a b = tt
          both (x ∷ ps) a b = ((a.0, b.0), both ps a.1 b.1)

      at_p : (x : Package) → bytes_eq x.uuid p ≡ true → find (λ y. bytes_eq y.uuid x.uuid) m.packages ≡ Some x
          → Full (change (receipt_of m q) q.command x)
      at_p x same found =
          let is_p : holdings m p ≡ x = ap (holdings m) (sym ((bytes_eq-Decides x.uuid p).0 same))
          ∙ ap (λ o. option_or o) found in
          let items_is : x.items ≡ items = sym (ap (λ y. y.items) is_p) ∙ s.items_are in
          let links_is : x.links ≡ links = sym (ap (λ y. y.links) is_p) ∙ s.links_are in
          ap (λ l. is_overfull (package_of (items_after q.command l) (links_after q.command x.links))) items_is
          ∙ ap (λ l. is_overfull (package_of (items_after q.command items) (links_after q.command l))) links_is
          ∙ full
        where
          option_or : Option Package → Package
          option_or o = unwrap_or o no_package

  -- ---- each reason

  module _ (id moment : List ℕ) (new : has (λ r. r.request) id (receipts_of m) ≡ false)
      (timed : is_moment moment ≡ true) where
    abbrev asked : Command → Request
    asked c = record { id = id; at = moment; command = c }

    none : kept m id ≡ None
    none = not_found (λ r. bytes_eq r.request id) (receipts_of m) new

    not_reused : (c : Command) → id_reused m (asked c) ≡ false
    not_reused c = ap (λ o. option_map_or (λ r. not (bytes_eq r.line (line c))) o false) none

    alive : not (is_live m p && true) ≡ false
    alive = ap (λ b. not (b && true)) (s.lives p ∙ live)

    fit_moment : (b : Bool) → b ≡ false → (not (is_moment moment) || b) ≡ false
    fit_moment b e = ap (λ t. not t || b) timed ∙ e

    of_items : (f : List Item → Bool) → f (holdings m p).items ≡ f items
    of_items f = ap f s.items_are

    of_links : (f : List Relation → Bool) → f (holdings m p).links ≡ f links
    of_links f = ap f s.links_are

    kind_there : (kind : MovedKind) (end : List ℕ) → has item_key (kind_number kind ∷ end) items ≡ true
        → (has_item (holdings m p) end ≡ true) × (has_kind (holdings m p) kind end ≡ true)
    kind_there kind end some =
        let there : has_kind (holdings m p) kind end ≡ true =
        of_items (has item_key (kind_number kind ∷ end)) ∙ some in (
          any_implies (λ i. bytes_eq (item_key i) (kind_number kind ∷ end)) (λ i. bytes_eq i.identity end)
              (λ i e. (bytes_eq-Decides i.identity end).1 (ap (drop 1)
              ((bytes_eq-Decides (item_key i) (kind_number kind ∷ end)).0 e))) (holdings m p).items there,
          there,
        )

    place_free : (content : Content) → takes_place (package_of items links) content ≡ false
        → takes_place (holdings m p) content ≡ false
    place_free (Tile zoom column row bytes) e = of_items (list_any (λ i. is_at zoom column row i.content)) ∙ e
    place_free (Media content_type bytes) e = e
    place_free (Row x y code label) e = e

    -- what a frame says of a content
    same_place : (identity : List ℕ) (content : Content) → bad_place w (Add p identity content) ≡ false
        → bad_place m (Add p identity content) ≡ false
    same_place identity (Tile zoom column row bytes) e = ap (λ f. not (has_place f zoom column row)) s.same_frame ∙ e
    same_place identity (Media content_type bytes) e = e
    same_place identity (Row x y code label) e = e

    same_ground : (identity : List ℕ) (content : Content) → out_of_frame w (Add p identity content) ≡ false
        → out_of_frame m (Add p identity content) ≡ false
    same_ground identity (Tile zoom column row bytes) e = e
    same_ground identity (Media content_type bytes) e = e
    same_ground identity (Row x y code label) e = ap (λ f. not (in_frame f x y)) s.same_frame ∙ e

    passes : (c : Command) → IsWithin p c → IsReady w (all_added done) items links c
        → too_many (accepted m (asked c)) ≡ false → AllByRecursion (λ row. row.0 ≡ false)
        (reasons m (accepted m (asked c)) (asked c))
    passes (Add q identity content) within ready room = subst
        (λ u. AllByRecursion (λ row. row.0 ≡ false) (reasons m (accepted m (asked (Add q identity content)))
        (asked (Add u identity content)))) (sym within) (
          not_reused (Add p identity content),
          (
            alive,
            (
              refl,
              (
                fit_moment (bad_text (Add p identity content))
                    (subst (λ u. bad_text (Add u identity content) ≡ false)
                    within ready.0),
                (
                  ap not ready.1,
                  (
                    s.used identity ∙ ap (λ b. b || is_among (all_added done) identity) ready.4 ∙ ready.5,
                    (
                      refl,
                      (
                        refl,
                        (
                          same_place identity content (subst (λ u. bad_place w (Add u identity content) ≡ false)
                              within
                              ready.2),
                          (
                            same_ground identity content (subst
                                (λ u. out_of_frame w (Add u identity content) ≡ false)
                                within ready.3),
                            (
                              place_free content ready.6,
                              (
                                refl,
                                (
                                  refl,
                                  (refl, (refl, (refl, (refl, (refl, (refl, (refl, (refl, (refl, (room, tt)))))))))),
                                ),
                              ),
                            ),
                          ),
                        ),
                      ),
                    ),
                  ),
                ),
              ),
            ),
          ),
        )
    passes (Delete q identity) within ready room = subst (λ u. AllByRecursion (λ row. row.0 ≡ false)
        (reasons m (accepted m (asked (Delete q identity))) (asked (Delete u identity)))) (sym within) (
          not_reused (Delete p identity),
          (
            alive,
            (
              refl,
              (
                fit_moment false refl,
                (
                  refl,
                  (
                    refl,
                    (
                      ap not (of_items (has (λ i. i.identity) identity) ∙ ready.0),
                      (
                        refl,
                        (
                          refl,
                          (
                            refl,
                            (
                              refl,
                              (
                                refl,
                                (
                                  refl,
                                  (
                                    of_links (list_any (has_end identity))
                                        ∙ ready.1,
                                    (
                                      refl,
                                      (
                                        refl,
                                        (
                                          refl,
                                          (refl, (refl, (refl, (refl, (refl, (room, tt)))))),
                                        ),
                                      ),
                                    ),
                                  ),
                                ),
                              ),
                            ),
                          ),
                        ),
                      ),
                    ),
                  ),
                ),
              ),
            ),
          ),
        )
    passes (Link q mapping base other) within ready room =
        let b = kind_there (base_kind mapping) base ready.0 in
        let o = kind_there (other_kind mapping) other ready.1 in
        subst (λ u. AllByRecursion (λ row. row.0 ≡ false) (reasons m
        (accepted m (asked (Link q mapping base other)))
        (asked (Link u mapping base other)))) (sym within) (
          not_reused (Link p mapping base other),
          (
            alive,
            (
              refl,
              (
                fit_moment false refl,
                (
                  refl,
                  (
                    refl,
                    (
                      ap (λ v. not (v && has_item (holdings m p) other)) b.0 ∙ ap not o.0,
                      (
                        ap (λ v. not (v && has_kind (holdings m p) (other_kind mapping) other)) b.1 ∙ ap not o.1,
                        (
                          refl,
                          (
                            refl,
                            (
                              refl,
                              (
                                of_links (has link_key (link_key (relation mapping base other)))
                                    ∙ ready.2,
                                (
                                  refl,
                                  (
                                    refl,
                                    (
                                      refl,
                                      (refl, (refl, (refl, (refl, (refl, (refl, (refl, (room, tt)))))))),
                                    ),
                                  ),
                                ),
                              ),
                            ),
                          ),
                        ),
                      ),
                    ),
                  ),
                ),
              ),
            ),
          ),
        )
    passes (Unlink q mapping base other) within ready room =
        subst (λ u. AllByRecursion (λ row. row.0 ≡ false) (reasons m
        (accepted m (asked (Unlink q mapping base other))) (asked (Unlink u mapping base other)))) (sym within) (
          not_reused (Unlink p mapping base other),
          (
            alive,
            (
              refl,
              (
                fit_moment false refl,
                (
                  refl,
                  (
                    refl,
                    (
                      refl,
                      (
                        refl,
                        (
                          refl,
                          (
                            refl,
                            (
                              refl,
                              (
                                refl,
                                (
                                  ap not (of_links (has link_key (link_key (relation mapping base other))) ∙ ready),
                                  (refl, (refl, (refl, (refl, (refl, (refl, (refl, (refl, (refl, (room, tt)))))))))),
                                ),
                              ),
                            ),
                          ),
                        ),
                      ),
                    ),
                  ),
                ),
              ),
            ),
          ),
        )
    passes (Split q child mode rect) within ready room = absurd within
    passes (Merge child into ticket) within ready room = absurd within

    unrefused : (c : Command) → IsWithin p c → IsReady w (all_added done) items links c
        → too_many (accepted m (asked c)) ≡ false → refuses m (asked c) ≡ None
    unrefused c within ready room = rows_pass (reasons m (accepted m (asked c)) (asked c)) (passes c within ready room)

-- ---- a list of them

not_kept : (m : World) (q : Request) → has (λ r. r.request) q.id (receipts_of m) ≡ false
    → kept_reply m q ≡ None
not_kept m q new = ap (λ o. option_and_then (λ r. then_some (bytes_eq r.line (line q.command)) r) o)
    (not_found (λ r. bytes_eq r.request q.id) (receipts_of m) new)

ready_run : (w : World) (p : List ℕ) → is_live w p ≡ true → too_many w ≡ false
    → (m : World) (done : List Request) (items : List Item) (links : List Relation) → Stage w m p done items links
    → is_overfull (package_of items links) ≡ false → (qs : List Request) (replies : List Reply) (next : World)
    → AreWithin p qs → list_any (is_kept w) qs ≡ false → has_twice (map (λ q. q.id) (done ++ qs)) ≡ false
    → length (receipts_of w) + length done + length qs ≤ greatest_receipts
    → AreReady w (all_added done) items links qs → Run m qs replies next → IsUnrefused replies
ready_run w p live few m done items links s full [] [] next within unkept apart room ready run = tt
ready_run w p live few m done items links s full [] (reply ∷ replies) next within unkept apart room ready run =
    absurd run
ready_run w p live few m done items links s full (q ∷ qs) [] next within unkept apart room ready run = absurd run
ready_run w p live few m done items links s full (q ∷ qs) (reply ∷ replies) next within unkept apart room ready
    run =
    let parts : (is_kept w q ≡ false) × (list_any (is_kept w) qs ≡ false) =
    or_parts (is_kept w q) (list_any (is_kept w) qs) unkept in
    let alone : is_among (map (λ x. x.id) done) q.id ≡ false =
    apart_from (map (λ x. x.id) done) q.id (map (λ x. x.id) qs)
    (ap has_twice (sym (map-append (λ x. x.id) done (q ∷ qs))) ∙ apart) in
    let new : has (λ r. r.request) q.id (receipts_of m) ≡ false =
    still_new w m p done items links live s q parts.0 alone in
    let no_reply : kept_reply m q ≡ None = not_kept m q new in
    let after_full = limits w m p done items links live s few full q within.0.1 ready.2 (omega (arith, room)) in
    let no_refusal : refuses m q ≡ None = unrefused w m p done items links live s few full q.id q.at new ready.0
    q.command within.0.1 ready.1 after_full in
    let register : IsRegister run.0 = step_keeps_register m q reply run.0 within.0.0 s.register run.1 in
    let whole : (done ++ q ∷ []) ++ qs ≡ done ++ (q ∷ qs) = append_assoc done (q ∷ []) qs in
    elim run.1 [
      | inl it ↦
          let is : (reply ≡ Ok (receipt_of m q)) × (run.0 ≡ accepted m q) =
          subst (λ o. (reply ≡ (outcome_by m q None o).0) × (run.0 ≡ (outcome_by m q None o).1)) no_refusal
          (subst (λ k. (reply ≡ (outcome_by m q k (refuses m q)).0)
          × (run.0 ≡ (outcome_by m q k (refuses m q)).1))
          no_reply it) in
          let there : Stage w run.0 p (done ++ q ∷ []) (items_after q.command items) (links_after q.command links) =
          subst (λ v. Stage w v p (done ++ q ∷ []) (items_after q.command items) (links_after q.command links))
          (sym is.1)
          (one_more w m p done items links live s q within.0.0 within.0.1 no_refusal
          (subst IsRegister is.1 register)) in
          let rest : IsUnrefused replies =
          ready_run w p live few run.0 (done ++ q ∷ []) (items_after q.command items) (links_after q.command links)
          there ready.2 qs replies next within.1 parts.1
          (ap (λ l. has_twice (map (λ x. x.id) l)) whole ∙ apart)
          (omega (arith, room, length-append done (q ∷ [])))
          (subst (λ l. AreReady w l (items_after q.command items) (links_after q.command links) qs)
          (sym (all_added_more done q)) ready.3) run.2 in
          subst (λ a. IsUnrefused (a ∷ replies)) (sym is.0) rest
      | inr fault ↦ elim fault.0 [
        | inl memory ↦ subst (λ a. IsUnrefused (a ∷ replies)) (sym memory) (inl refl)
        | inr store ↦ subst (λ a. IsUnrefused (a ∷ replies)) (sym store) (inr refl)
      ]
    ]

pub ready_run_is_unrefused : ReadyRunIsUnrefused
ready_run_is_unrefused w p qs replies next register live within new few room ready run =
    let tests = or_parts (list_any is_overfull w.packages || nat_lt greatest_packages (length w.packages))
    (nat_lt greatest_receipts (length (receipts_of w))) few in
    let packages = or_parts (list_any is_overfull w.packages) (nat_lt greatest_packages (length w.packages)) tests.0 in
    let here : is_overfull (holdings w p) ≡ false = (at_all w (λ x. is_overfull x ≡ false) p
    (none_pass is_overfull w.packages packages.0) live).0 in
    ready_run w p live few w [] (holdings w p).items (holdings w p).links (begins w p register) here qs replies next
    within new.unkept new.apart (omega (arith, room)) ready run

-- A world behind some requests in one package, and one request more.
use Rattle.std.specs.Prelude.{◌≡◌, ℕ, Bool, true, false, cond, ◌&&◌, ◌||◌, List, [], ◌∷◌}
use Rattle.std.specs.Prelude.{◌++◌, map, find, length}
use Rattle.std.specs.Prelude.{refl, bytes_eq, is_some, Some, None}
use Rattle.std.proofs.Common.{sym, ap, subst, ◌∙◌, inl, inr, append_assoc}
use Rattle.std.proofs.lemmas.Bool.{true≢false, or_parts}
use Rattle.std.proofs.lemmas.List.{append-nil, length-map, map-append}
use Rattle.std.proofs.lemmas.List.Folds.{list_any-append}
use Rattle.std.specs.Bool.{then_some}
use Rattle.std.specs.List.{list_any, AllByRecursion}
use Rattle.std.specs.Option.{option_and_then, option_map_or}
use Rattle.sheet_types.specs.Custody.{kept, is_used, is_add}
use Rattle.sheet_types.specs.Lines.{HasTypes, entry_from, is_adding}
use Rattle.sheet_types.specs.Ordered.{has, is_among}
use Rattle.sheet_types.specs.Refuse.{reasons}
use Rattle.sheet_types.specs.Register.{IsRegister}
use Rattle.sheet_types.specs.Step.{Step, Run, accepted, carried_out, receipt_of, kept_reply, refuses, outcome_by}
use Rattle.sheet_types.specs.Texts.{line, entry_of}
use Rattle.sheet_types.specs.World.{World, Package, receipts_of, holdings, is_live, with_receipt, changed}
use Rattle.sheet_types.specs.declared.command.Command.{Command}
use Rattle.sheet_types.specs.declared.command.Command.TheVariants.{Add, Delete, Link, Unlink, Split, Merge}
use Rattle.sheet_types.specs.declared.command.Item.{Item}
use Rattle.sheet_types.specs.declared.command.Relation.{Relation}
use Rattle.sheet_types.specs.declared.command.Request.{Request}
use Rattle.sheet_types.specs.declared.receipt.Receipt.{Receipt}
use Rattle.sheet_types.proofs.Basics.{or-false}
use Rattle.sheet_types.proofs.Fitting.{entry_fits}
use Rattle.sheet_types.proofs.Found.{not_found}
use Rattle.sheet_types.proofs.LineReading.{entry_from-line}
use Rattle.sheet_types.proofs.Without.{among_keys}
use Rattle.sheet_laws.proofs.Accepting.{rows_fail}
use Rattle.sheet_laws.proofs.Keeping.{live_changed}
use Rattle.sheet_laws.proofs.Packages.{holdings_same, holdings_other, receipts_gained, with_receipt_gains}
use Rattle.sheet_laws.proofs.Running.{step_keeps_register}
use Rattle.sheet_laws.proofs.Shifting.{numbers_below}
use Rattle.field_run_laws.specs.Lists.{Reply, IsWithin, AreWithin, is_kept, has_twice, items_after, links_after}
use Rattle.field_run_laws.specs.Lists.{items_through, links_through, HoldsNow, IsGiven, AreGiven}
use Rattle.field_run_laws.specs.Ready.{added}
use Rattle.field_run_laws.proofs.Keys.{apart_from}

-- ---- one command

-- what a command makes of the package
abbrev pub change : Receipt → Command → Package → Package
change r c x = with_receipt r (record x { items = items_after c x.items; links = links_after c x.links })

pub carried : (w : World) (r : Receipt) (p : List ℕ) (c : Command) → IsWithin p c
    → carried_out w r c ≡ changed (change r c) p w
carried w r p (Add q identity content) within = ap (λ u. changed (change r (Add q identity content)) u w) within
carried w r p (Delete q identity) within = ap (λ u. changed (change r (Delete q identity)) u w) within
carried w r p (Link q mapping base other) within = ap (λ u. changed (change r (Link q mapping base other)) u w) within
carried w r p (Unlink q mapping base other) within = ap (λ u. changed (change r (Unlink q mapping base other)) u w)
    within
carried w r p (Split q child mode rect) within = absurd within
carried w r p (Merge child into ticket) within = absurd within

-- those of all commands
abbrev pub all_added : List Request → List (List ℕ)
all_added [] = []
all_added (q ∷ qs) = added q.command ++ all_added qs

-- whether its receipt is one of an Add that names an identity
adds_named : (w : World) (id moment : List ℕ) (c : Command) (k : List ℕ)
    → entry_from (line c) ≡ Some (entry_of c) →
    (is_add (receipt_of w (record { id = id; at = moment; command = c })) && has (λ m. m.base) k
    (receipt_of w (record { id = id; at = moment; command = c })).items) ≡ is_among (added c) k
adds_named w id moment (Add p identity content) k says = ap (λ b. b && (bytes_eq identity k || false))
    (ap (λ o. option_map_or is_adding o false) says)
adds_named w id moment (Delete p identity) k says = ap (λ b. b && has (λ m. m.base) k
    (receipt_of w (record { id = id; at = moment; command = Delete p identity })).items)
    (ap (λ o. option_map_or is_adding o false) says)
adds_named w id moment (Link p mapping base other) k says = ap (λ b. b && (bytes_eq base k || false))
    (ap (λ o. option_map_or is_adding o false) says)
adds_named w id moment (Unlink p mapping base other) k says =
    ap (λ b. b && (bytes_eq base k || false)) (ap (λ o. option_map_or is_adding o false) says)
adds_named w id moment (Split p child mode rect) k says = ap
    (λ b. b && has (λ m. m.base) k (receipt_of w (record {
      id = id;
      at = moment;
      command = Split p child mode rect;
    })).items) (ap (λ o. option_map_or is_adding o false) says)
adds_named w id moment (Merge child into ticket) k says = ap
    (λ b. b && has (λ m. m.base) k (receipt_of w (record {
      id = id;
      at = moment;
      command = Merge child into ticket;
    })).items) (ap (λ o. option_map_or is_adding o false) says)

-- ---- a world behind some requests

pub record Stage (w m : World) (p : List ℕ) (done : List Request) (items : List Item) (links : List Relation) :
    Type 0 where
  pub register : IsRegister m
  pub lives : (q : List ℕ) → is_live m q ≡ is_live w q
  pub holds : holdings m p ≡ record (holdings w p) {
    items = items;
    links = links;
    receipts = (holdings m p).receipts;
  }
  pub items_are : (holdings m p).items ≡ items
  pub links_are : (holdings m p).links ≡ links
  pub others : (q : List ℕ) → bytes_eq q p ≡ false → holdings m q ≡ holdings w q
  pub same_frame : m.frame ≡ w.frame
  pub packages : length m.packages ≡ length w.packages
  pub gained : List Receipt
  pub receipts : receipts_of m ≡ receipts_of w ++ gained
  pub asked : map (λ r. r.request) gained ≡ map (λ q. q.id) done
  pub used : (k : List ℕ) → is_used m k ≡ (is_used w k || is_among (all_added done) k)

-- before all of them
pub begins : (w : World) (p : List ℕ) → IsRegister w → Stage w w p [] (holdings w p).items (holdings w p).links
begins w p register = record {
  register = register;
  lives = λ q. refl;
  holds = refl;
  items_are = refl;
  links_are = refl;
  others = λ q _. refl;
  same_frame = refl;
  packages = refl;
  gained = [];
  receipts = sym (append-nil (receipts_of w));
  asked = refl;
  used = λ k. sym (or-false (is_used w k));
}

pub all_added_more : (xs : List Request) (q : Request) → all_added (xs ++ q ∷ []) ≡ all_added xs
    ++ added q.command
all_added_more [] q = append-nil (added q.command)
all_added_more (x ∷ xs) q = ap (λ l. added x.command ++ l) (all_added_more xs q)
    ∙ sym (append_assoc (added x.command) (all_added xs) (added q.command))

or_assoc : (a b c : Bool) → ((a || b) || c) ≡ (a || (b || c))
or_assoc true b c = refl
or_assoc false b c = refl

-- as many receipts as requests
pub gained_length : (w m : World) (p : List ℕ) (done : List Request) (items : List Item) (links : List Relation)
    (s : Stage w m p done items links) → length s.gained ≡ length done
gained_length w m p done items links s = sym (length-map s.gained (λ r. r.request)) ∙ ap length s.asked
    ∙ length-map done (λ q. q.id)

module _ (w m : World) (p : List ℕ) (done : List Request) (items : List Item) (links : List Relation)
    (live : is_live w p ≡ true) (s : Stage w m p done items links) where
  -- a request that was neither kept nor among them is not kept
  pub still_new : (q : Request) → is_kept w q ≡ false → is_among (map (λ x. x.id) done) q.id ≡ false
      → has (λ r. r.request) q.id (receipts_of m) ≡ false
  still_new q unkept apart =
      ap (list_any (λ r. bytes_eq r.request q.id)) s.receipts
      ∙ list_any-append (λ r. bytes_eq r.request q.id) (receipts_of w) s.gained
      ∙ ap (λ b. b || has (λ r. r.request) q.id s.gained) (none_kept (receipts_of w) unkept)
      ∙ sym (among_keys (λ r. r.request) q.id s.gained)
      ∙ ap (λ ks. is_among ks q.id) s.asked ∙ apart
    where
      none_kept : (rs : List Receipt) → is_some (find (λ r. bytes_eq r.request q.id) rs) ≡ false
          → has (λ r. r.request) q.id rs ≡ false
      none_kept [] h = refl
      none_kept (r ∷ rs) h =
          elim (bytes_eq r.request q.id) as (λ v. is_some (cond v (Some r) (find (λ x. bytes_eq x.request q.id) rs))
          ≡ false → (v || has (λ x. x.request) q.id rs) ≡ false) [
            | true ↦ λ e. absurd (true≢false e)
            | false ↦ λ e. none_kept rs e
          ] h

  -- and one request more, which is accepted
  pub one_more : (q : Request) → HasTypes q.command → IsWithin p q.command → refuses m q ≡ None
      → IsRegister (accepted m q)
      → Stage w (accepted m q) p (done ++ q ∷ []) (items_after q.command items) (links_after q.command links)
  one_more q types within no_refusal register =
      let r : Receipt = receipt_of m q in
      let f : Package → Package = change r q.command in
      let is : accepted m q ≡ changed f p m = carried m r p q.command within in
      let here : is_live m p ≡ true = s.lives p ∙ live in
      let fails : AllByRecursion (λ row. row.0 ≡ false) (reasons m (accepted m q) q) =
      rows_fail (reasons m (accepted m q) q) no_refusal in
      let says : entry_from r.line ≡ Some (entry_of q.command) =
      entry_from-line (entry_of q.command) (entry_fits q.command types fails.1.1.1.1.0) in
      let at_p : holdings (changed f p m) p ≡ f (holdings m p) = holdings_same f m p (λ x. refl) here in
      let gains : receipts_of (changed f p m) ≡ receipts_of m ++ r ∷ [] =
      receipts_gained f m p r (λ x below. with_receipt_gains r x below)
      (numbers_below m r.seq s.register.balanced.ledger refl) s.register.arranged here in
      let ledger : receipts_of (accepted m q) ≡ receipts_of m ++ r ∷ [] = ap receipts_of is ∙ gains in
      record {
        register = register;
        lives = λ u. ap (λ v. is_live v u) is ∙ live_changed f p u m.packages (λ x. refl) ∙ s.lives u;
        holds = ap (λ v. holdings v p) is ∙ at_p ∙ ap f s.holds
            ∙ ap (λ rs. record (holdings w p) {
              items = items_after q.command items;
              links = links_after q.command links;
              receipts = rs;
            })
            (sym (ap (λ v. (holdings v p).receipts) is ∙ ap (λ x. x.receipts) at_p));
        items_are = ap (λ v. (holdings v p).items) is ∙ ap (λ x. x.items) at_p
            ∙ ap (items_after q.command) s.items_are;
        links_are = ap (λ v. (holdings v p).links) is ∙ ap (λ x. x.links) at_p
            ∙ ap (links_after q.command) s.links_are;
        others = λ u other. ap (λ v. holdings v u) is ∙ holdings_other f m p u (λ x. refl) other
            ∙ s.others u other;
        same_frame = ap (λ v. v.frame) is ∙ s.same_frame;
        packages = ap (λ v. length v.packages) is ∙ length-map m.packages (λ x. cond (bytes_eq x.uuid p) (f x) x)
            ∙ s.packages;
        gained = s.gained ++ r ∷ [];
        receipts = ledger ∙ ap (λ rs. rs ++ r ∷ []) s.receipts
            ∙ append_assoc (receipts_of w) s.gained (r ∷ []);
        asked = map-append (λ x. x.request) s.gained (r ∷ []) ∙ ap (λ ks. ks ++ q.id ∷ []) s.asked
            ∙ sym (map-append (λ x. x.id) done (q ∷ []));
        used = λ k.
            ap (list_any (λ x. is_add x && has (λ t. t.base) k x.items)) ledger
            ∙ list_any-append (λ x. is_add x && has (λ t. t.base) k x.items) (receipts_of m) (r ∷ [])
            ∙ ap (λ b. is_used m k || b) (or-false (is_add r && has (λ t. t.base) k r.items)
            ∙ adds_named m q.id q.at q.command k says)
            ∙ ap (λ b. b || is_among (added q.command) k) (s.used k)
            ∙ or_assoc (is_used w k) (is_among (all_added done) k) (is_among (added q.command) k)
            ∙ ap (λ b. is_used w k || b) (sym (list_any-append (λ x. bytes_eq x k) (all_added done)
            (added q.command))
            ∙ ap (λ l. is_among l k) (sym (all_added_more done q)));
      }

-- ---- a list of requests

-- an accepted request whose identity is new was carried out
pub was_accepted : (m : World) (q : Request) (reply : Reply) (next : World)
    → has (λ r. r.request) q.id (receipts_of m) ≡ false → Step m q reply next → IsGiven reply
    → (refuses m q ≡ None) × (next ≡ accepted m q)
was_accepted m q reply next new step given =
    let none : kept m q.id ≡ None = not_found (λ r. bytes_eq r.request q.id) (receipts_of m) new in
    let no_reply : kept_reply m q ≡ None = ap (λ o. option_and_then
    (λ r. then_some (bytes_eq r.line (line q.command)) r) o) none in
    elim step [
      | inl done ↦
          let is : (reply ≡ (outcome_by m q None (refuses m q)).0)
          × (next ≡ (outcome_by m q None (refuses m q)).1) =
          subst (λ k. (reply ≡ (outcome_by m q k (refuses m q)).0) × (next ≡ (outcome_by m q k (refuses m q)).1))
          no_reply done in
          elim (refuses m q) as (λ o. refuses m q ≡ o → (reply ≡ (outcome_by m q None o).0)
          × (next ≡ (outcome_by m q None o).1) → (refuses m q ≡ None) × (next ≡ accepted m q)) [
            | None ↦ λ e it. (e, it.1)
            | Some why ↦ λ _ it. absurd (subst IsGiven it.0 given)
          ] refl is
      | inr fault ↦ absurd (elim fault.0 [
        | inl memory ↦ subst IsGiven memory given
        | inr store
            ↦ subst IsGiven store given
      ])
    ]

pub run_stage : (w m : World) (p : List ℕ) (done : List Request) (items : List Item) (links : List Relation)
    → is_live w p ≡ true → Stage w m p done items links
    → (qs : List Request) (replies : List Reply) (next : World) → AreWithin p qs
    → list_any (is_kept w) qs ≡ false
    → has_twice (map (λ q. q.id) (done ++ qs)) ≡ false → Run m qs replies next → AreGiven replies
    → Stage w next p (done ++ qs) (items_through qs items) (links_through qs links)
run_stage w m p done items links live s [] [] next within unkept apart run given =
    subst (λ l. Stage w next p l items links) (sym (append-nil done))
    (subst (λ v. Stage w v p done items links) (sym run) s)
run_stage w m p done items links live s [] (reply ∷ replies) next within unkept apart run given = absurd run
run_stage w m p done items links live s (q ∷ qs) [] next within unkept apart run given = absurd run
run_stage w m p done items links live s (q ∷ qs) (reply ∷ replies) next within unkept apart run given =
    let parts : (is_kept w q ≡ false) × (list_any (is_kept w) qs ≡ false) =
    or_parts (is_kept w q) (list_any (is_kept w) qs) unkept in
    let alone : is_among (map (λ x. x.id) done) q.id ≡ false =
    apart_from (map (λ x. x.id) done) q.id (map (λ x. x.id) qs)
    (ap has_twice (sym (map-append (λ x. x.id) done (q ∷ qs))) ∙ apart) in
    let it : (refuses m q ≡ None) × (run.0 ≡ accepted m q) =
    was_accepted m q reply run.0 (still_new w m p done items links live s q parts.0 alone) run.1 given.0 in
    let register : IsRegister run.0 = step_keeps_register m q reply run.0 within.0.0 s.register run.1 in
    let there : Stage w run.0 p (done ++ q ∷ []) (items_after q.command items) (links_after q.command links) =
    subst (λ v. Stage w v p (done ++ q ∷ []) (items_after q.command items) (links_after q.command links)) (sym it.1)
    (one_more w m p done items links live s q within.0.0 within.0.1 it.0 (subst IsRegister it.1 register)) in
    let whole : (done ++ q ∷ []) ++ qs ≡ done ++ (q ∷ qs) = append_assoc done (q ∷ []) qs in
    subst (λ l. Stage w next p l (items_through qs (items_after q.command items))
    (links_through qs (links_after q.command links))) whole
    (run_stage w run.0 p (done ++ q ∷ []) (items_after q.command items) (links_after q.command links) live there qs
    replies next within.1 parts.1 (ap (λ l. has_twice (map (λ x. x.id) l)) whole ∙ apart) run.2 given.1)

-- what a stage says of its world
pub holds_now : (w m : World) (p : List ℕ) (done : List Request) (items : List Item) (links : List Relation)
    → Stage w m p done items links → HoldsNow w m p items links (length done)
holds_now w m p done items links s = record {
  holds = s.holds;
  others = s.others;
  lives = s.lives;
  same_frame = s.same_frame;
  gained = s.gained;
  ledger = s.receipts;
  as_many = gained_length w m p done items links s;
}

-- Loans that are not at home: what is put to the others, and the fault.
use Rattle.std.specs.Prelude.{◌≡◌, ℕ, true, List, [], ◌∷◌, ◌++◌, find, Option, Some, None, IfSome}
use Rattle.std.specs.Prelude.{IfNone, Contains}
use Rattle.std.proofs.Common.{sym, ap, subst, ◌∙◌, inl, inr}
use Rattle.std.proofs.lemmas.Bool.{true≢false}
use Rattle.std.specs.Option.{option_map_or, option_map}
use Rattle.sheet_types.specs.Opening.{Claim, IsBelow, IsLeast, IsNever}
use Rattle.sheet_types.proofs.Basics.{some_once, None≢Some}
use Rattle.opening_faults.specs.Foreign.{Adds, IsForeign}
use Rattle.opening_faults.specs.Sights.{head_said, head_seen, frame_seen, is_root, is_loan_of, uuid_seen, ForeignFrame}
use Rattle.opening_faults.specs.Splits.{AreOpenSplits, IsOpenSplit, split_made, claim_made}
use Rattle.opening_faults.specs.declared.splits.OpenSplit.{OpenSplit}
use Rattle.opening_faults.specs.declared.sights.StoreHead.{StoreHead}
use Rattle.opening_faults.specs.declared.sights.Sight.{Sight}
use Rattle.opening_faults.proofs.Members.{contained}
use Rattle.opening_faults.proofs.Choosing.{last_there, still_there, there_or_last}
use Rattle.opening_faults.proofs.Turning.{found_headed, no_loan, headed}

-- ---- what is put to the others

pub adds_none : (P : List ℕ → Type 0) (ids : List (List ℕ)) → ((id : List ℕ) → P id → ⊥)
    → Adds P ids ids
adds_none P ids none = record { kept = λ id h. h; sound = λ id h. inl h; whole = λ id p. absurd (none id p) }

pub adds_one : (P : List ℕ → Type 0) (old new : List (List ℕ)) (one : List ℕ) → new ≡ old ++ one ∷ []
    → P one
    → ((id : List ℕ) → P id → one ≡ id) → Adds P old new
adds_one P old new one all p only = record {
  kept = λ id h. still_there old new one id all h;
  sound = λ id h. elim (there_or_last old new one id all h) [ inl there ↦ inl there | inr e ↦ inr (subst P e p) ];
  whole = λ id q. subst (Contains new) (only id q) (last_there old new one all);
}

-- by some of a list, none at first
pub adds_by_none : {X : Type 0} (P : X → List ℕ → Type 0) (ids : List (List ℕ))
    → Adds (λ id. (x : X) × Contains [] x × P x id) ids ids
adds_by_none {X} P ids = adds_none (λ id. (x : X) × Contains [] x × P x id) ids (λ id h. contained [] h.0 h.1)

-- by one more
pub adds_more : {X : Type 0} (P : X → List ℕ → Type 0) (xs more : List X) (x : X) (old mid new : List (List ℕ))
    → more ≡ xs ++ x ∷ [] → Adds (λ id. (y : X) × Contains xs y × P y id) old mid → Adds (P x) mid new
    → Adds (λ id. (y : X) × Contains more y × P y id) old new
adds_more P xs more x old mid new is was now = record {
  kept = λ id h. now.kept id (was.kept id h);
  sound = λ id h. elim (now.sound id h) [
    | inl there ↦ elim (was.sound id there) [
      | inl before ↦ inl before
      | inr p
          ↦ inr (p.0, still_there xs more x p.0 is p.1, p.2)
    ]
    | inr p ↦ inr (x, last_there xs more x is, p)
  ];
  whole = λ id p. elim (there_or_last xs more x p.0 is p.1) [
    | inl before ↦ now.kept id (was.whole id (p.0, before, p.2))
    | inr e ↦ now.whole id (subst (λ y. P y id) (sym e) p.2)
  ];
}

-- a store that is a loan has a head, and its UUID is that of the head
pub pushed_head : (s : Sight) (c : Claim) (old new : List (List ℕ)) → is_loan_of c s ≡ true
    → new ≡ old ++ option_map_or (λ h. h.uuid ∷ []) s.head [] → new ≡ old ++ uuid_seen s ∷ []
pushed_head s c old new loan is = elim (headed s.head) [
  | inl h ↦ is ∙ ap (λ ys. old ++ ys) (ap (λ o. option_map_or (λ x. x.uuid ∷ []) o []) h.1
      ∙ sym (ap (λ o. option_map_or (λ x. x.uuid) (option_map head_said o) [] ∷ []) h.1))
  | inr bare ↦ absurd (true≢false (sym loan ∙ no_loan s c bare))
]

-- ---- the fault

module _ (sights : List Sight) (splits : List OpenSplit) (all : AreOpenSplits sights splits) (root : Sight)
    (is : find is_root sights ≡ Some root) where
  pub foreign_to : (id : List ℕ) → IsForeign root sights splits id → ForeignFrame sights id
  foreign_to id (split, among, (loan, there, (made, apart, named))) =
      let of : IsOpenSplit sights split = all.sound split among in
      let same : split ≡ split_made split.above of.1 = of.5 in (
        root,
        of.0,
        of.1,
        loan,
        is,
        of.2,
        of.3,
        there,
        ap (λ x. is_loan_of (claim_made x) loan) (sym same) ∙ made,
        named,
        elim apart [
          | inl frames ↦ inl frames
          | inr below ↦ inr (λ b. below (subst (λ h. IsBelow h (head_seen loan)) (ap (option_map head_said) of.4)
              b))
        ],
      )

  pub foreign_fro : (id : List ℕ) → ForeignFrame sights id → IsForeign root sights splits id
  foreign_fro id (other, s, c, loan, first, there, shown, here, made, named, apart) =
      let h : (h : StoreHead) × (s.head ≡ Some h) = found_headed sights shown.0 s shown.1.0 in
      let same : other ≡ root = some_once (find is_root sights) other root first is in (
        split_made h.0 c,
        all.whole s c h.0 there shown h.1,
        (
          loan,
          here,
          (
            made,
            elim apart [
              | inl frames ↦ inl (λ e. frames (e ∙ ap frame_seen (sym same)))
              | inr below ↦ inr (λ b. below (subst (λ o. IsBelow o (head_seen loan))
                  (sym (ap (option_map head_said) h.1)) b))
            ],
            named,
          ),
        ),
      )

  pub least_foreign_is : (id : List ℕ) → IsLeast (IsForeign root sights splits) id
      → IsLeast (ForeignFrame sights) id
  least_foreign_is id h = (foreign_to id h.0, λ other f. h.1 other (foreign_fro other f))

  pub never_foreign_is : IsNever (IsForeign root sights splits) → IsNever (ForeignFrame sights)
  never_foreign_is h = λ id f. h id (foreign_fro id f)

pub no_root : (sights : List Sight) → find is_root sights ≡ None → IsNever (ForeignFrame sights)
no_root sights none id (root, s, c, loan, first, there, shown, here, made, named, apart) =
    None≢Some (sym none ∙ first)

-- what is put to nothing is what was put there
pub listed : (P : List ℕ → Type 0) (ids : List (List ℕ)) → Adds P [] ids → (id : List ℕ)
    → Contains ids id → P id
listed P ids h id there = elim (h.sound id there) [ inl none ↦ absurd (contained [] id none) | inr p ↦ p ]

pub some_weaker : (P Q : List ℕ → Type 0) (o : Option (List ℕ)) → ((id : List ℕ) → P id → Q id)
    → IfSome o P
    → IfSome o Q
some_weaker P Q None f h = tt
some_weaker P Q (Some id) f h = f id h

pub none_weaker : (A B : Type 0) (o : Option (List ℕ)) → (A → B) → IfNone o A → IfNone o B
none_weaker A B None f h = f h
none_weaker A B (Some id) f h = tt

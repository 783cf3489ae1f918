-- What came and what left, receipt by receipt, and within bounds.
use Rattle.std.specs.Prelude.{◌≡◌, ◌+◌, ◌-◌, ◌*◌, ◌≤◌, ◌<◌, ◌^◌, ℕ, Bool, true}
use Rattle.std.specs.Prelude.{false, cond, List, [], ◌∷◌, ◌++◌, filter, length, take, sum_by, Option, Some}
use Rattle.std.specs.Prelude.{None, unwrap_or, bytes_eq, refl}
use Rattle.std.proofs.Common.{sym, ap, subst, ◌∙◌, arith, add-zero}
use Rattle.std.specs.List.{AllByRecursion}
use Rattle.std.specs.Ordering.{nat_cmp}
use Rattle.std.specs.Cmp.Lexicographic.{slice_cmp}
use Rattle.std.specs.BTreeMap.{BTreeMap, get, Updates}
use Rattle.std.proofs.lemmas.List.{length-take-le}
use Rattle.std.proofs.lemmas.List.Sums.{sum_by-cons}
use Rattle.std.proofs.lemmas.Slice.Eq.{bytes_eq-Decides}
use Rattle.sheet_types.specs.Custody.{ends_at}
use Rattle.sheet_types.specs.declared.receipt.Receipt.{Receipt}
use Rattle.sheet_types.proofs.Every.{All-weaker}
use Rattle.sheet_laws.proofs.Ledger.{sum_by-filter_snoc}
use Rattle.sheet_ledger.specs.Flows.{totals_of, flow_by, flow_in, no_flow, HasFlows, plus, comes, leaves, IsMeasured}
use Rattle.sheet_ledger.specs.Flows.{IsAtMost}
use Rattle.sheet_ledger.specs.declared.flows.Flow.{Flow}
use Rattle.sheet_ledger.specs.declared.flows.Totals.{Totals}
use Rattle.sheet_ledger.proofs.Maps.{at_key}

-- ---- one key is set

-- a map with another flow under one key
pub flow_set : (m n : BTreeMap (List ℕ) Flow) (k : List ℕ) (v : Flow)
    → Updates (slice_cmp nat_cmp) m n k (Some v) → (p : List ℕ)
    → flow_in n p ≡ cond (bytes_eq k p) v (flow_in m p)
flow_set m n k v h p =
    ap (λ o. unwrap_or o no_flow) (at_key m n k (Some v) h p)
    ∙ elim (bytes_eq k p) as (λ b. unwrap_or (cond b (Some v) (get (slice_cmp nat_cmp) m p)) no_flow
    ≡ cond b v (flow_in m p)) [ true ↦ refl | false ↦ refl ]

-- of a flow that is made of the one that was there
pub flow_changed : (m n : BTreeMap (List ℕ) Flow) (k : List ℕ) (v : Flow) (f : Flow → Flow)
    (end : Option (List ℕ)) → end ≡ Some k → v ≡ f (flow_in m k)
    → Updates (slice_cmp nat_cmp) m n k (Some v)
    → (p : List ℕ) → flow_in n p ≡ cond (ends_at end p) (f (flow_in m p)) (flow_in m p)
flow_changed m n k v f end there is h p =
    flow_set m n k v h p
    ∙ elim (bytes_eq k p) as (λ b. bytes_eq k p ≡ b → cond b v (flow_in m p)
    ≡ cond b (f (flow_in m p)) (flow_in m p)) [
      | true ↦ λ e. is ∙ ap (λ q. f (flow_in m q)) ((bytes_eq-Decides k p).0 e)
      | false ↦ λ e. refl
    ] refl
    ∙ ap (λ o. cond (ends_at o p) (f (flow_in m p)) (flow_in m p)) (sym there)

-- ---- one receipt more

-- the sums of some receipts and one more that may be among them
totals_snoc : (q : Receipt → Bool) (rs : List Receipt) (r : Receipt)
    → totals_of (filter q (rs ++ r ∷ [])) ≡ cond (q r) (plus (totals_of (filter q rs)) r)
    (totals_of (filter q rs))
totals_snoc q rs r = elim (q r) as (λ b. q r ≡ b → totals_of (filter q (rs ++ r ∷ []))
    ≡ cond b (plus (totals_of (filter q rs)) r) (totals_of (filter q rs))) [
      | true ↦ λ e j. record {
        tiles = sum_by-filter_snoc (λ x. x.tiles) q rs r true e j;
        media = sum_by-filter_snoc (λ x. x.media) q rs r true e j;
        rows = sum_by-filter_snoc (λ x. x.rows) q rs r true e j;
        links = sum_by-filter_snoc (λ x. x.links) q rs r true e j;
        bytes = sum_by-filter_snoc (λ x. x.bytes) q rs r true e j;
      }
      | false ↦ λ e j. record {
        tiles = (sum_by-filter_snoc (λ x. x.tiles) q rs r false e
            ∙ add-zero (sum_by (λ x. x.tiles) (filter q rs))) j;
        media =
            (sum_by-filter_snoc (λ x. x.media) q rs r false e ∙ add-zero (sum_by (λ x. x.media) (filter q rs))) j;
        rows = (sum_by-filter_snoc (λ x. x.rows) q rs r false e ∙ add-zero (sum_by (λ x. x.rows) (filter q rs))) j;
        links = (sum_by-filter_snoc (λ x. x.links) q rs r false e ∙ add-zero (sum_by (λ x. x.links) (filter q rs)))
            j;
        bytes = (sum_by-filter_snoc (λ x. x.bytes) q rs r false e
            ∙ add-zero (sum_by (λ x. x.bytes) (filter q rs))) j;
      }
    ] refl

-- the flow of some receipts and one more
flow_snoc : (rs : List Receipt) (r : Receipt) (p : List ℕ) (f g : Flow)
    → f ≡ cond (ends_at r.target p) (comes (flow_by rs p) r) (flow_by rs p)
    → g ≡ cond (ends_at r.source p) (leaves f r) f → g ≡ flow_by (rs ++ r ∷ []) p
flow_snoc rs r p f g came left =
    left ∙ ap (λ x. cond (ends_at r.source p) (leaves x r) x) came
    ∙ both (ends_at r.target p) (ends_at r.source p)
    ∙ (λ j. record {
      came = sym (totals_snoc (λ x. ends_at x.target p) rs r) j;
      left = sym (totals_snoc (λ x. ends_at x.source p) rs r) j;
    })
  where
    both : (a b : Bool) → cond b (leaves (cond a (comes (flow_by rs p) r) (flow_by rs p)) r)
        (cond a (comes (flow_by rs p) r) (flow_by rs p))
        ≡ record {
          came = cond a (plus (flow_by rs p).came r) (flow_by rs p).came;
          left = cond b (plus (flow_by rs p).left r) (flow_by rs p).left;
        }
    both true true = refl
    both true false = refl
    both false true = refl
    both false false = refl

pub flows_more : (m mid new : BTreeMap (List ℕ) Flow) (rs more : List Receipt) (r : Receipt)
    → more ≡ rs ++ r ∷ [] → HasFlows m rs
    → ((p : List ℕ) → flow_in mid p ≡ cond (ends_at r.target p) (comes (flow_in m p) r) (flow_in m p))
    → ((p : List ℕ) → flow_in new p ≡ cond (ends_at r.source p) (leaves (flow_in mid p) r)
    (flow_in mid p)) → HasFlows new more
flows_more m mid new rs more r is was came left = record {
  flow = λ p.
      flow_snoc rs r p (flow_in mid p) (flow_in new p) (came p
      ∙ ap (λ f. cond (ends_at r.target p) (comes f r) f) (was.flow p)) (left p)
      ∙ ap (λ zs. flow_by zs p) (sym is);
}

-- ---- bounds

-- a sum of so many numbers of 64 bits
sum_bound : (f : Receipt → ℕ) (q : Receipt → Bool) (rs : List Receipt)
    → AllByRecursion (λ r. f r < 2 ^ 64) rs → sum_by f (filter q rs) ≤ length rs * (2 ^ 64 - 1)
sum_bound f q [] h = omega arith
sum_bound f q (r ∷ rs) h = elim (q r) as (λ b. sum_by f (cond b (r ∷ filter q rs) (filter q rs)) ≤ length
    (r ∷ rs) * (2 ^ 64 - 1)) [
      | true ↦ omega (arith, h.0, sum_by-cons f r (filter q rs), sum_bound f q rs h.1)
      | false ↦ omega (arith, sum_bound f q rs h.1)
    ]

few : (n k s : ℕ) → n ≤ k → k < 2 ^ 64 → s ≤ n * (2 ^ 64 - 1) → s ≤ 2 ^ 128 - 2 ^ 64
few n k s h small le = omega (arith, h, small, le)

totals_bound : (q : Receipt → Bool) (rs : List Receipt) → length rs < 2 ^ 64 → AllByRecursion IsMeasured rs
    → IsAtMost (2 ^ 128 - 2 ^ 64) (totals_of (filter q rs))
totals_bound q rs small h = record {
  tiles = few (length rs) (length rs) _ (omega arith) small (sum_bound (λ r. r.tiles) q rs
      (All-weaker IsMeasured (λ r. r.tiles < 2 ^ 64) (λ r m. m.tiles) rs h));
  media = few (length rs) (length rs) _ (omega arith) small (sum_bound (λ r. r.media) q rs
      (All-weaker IsMeasured (λ r. r.media < 2 ^ 64) (λ r m. m.media) rs h));
  rows = few (length rs) (length rs) _ (omega arith) small (sum_bound (λ r. r.rows) q rs
      (All-weaker IsMeasured (λ r. r.rows < 2 ^ 64) (λ r m. m.rows) rs h));
  links = few (length rs) (length rs) _ (omega arith) small (sum_bound (λ r. r.links) q rs
      (All-weaker IsMeasured (λ r. r.links < 2 ^ 64) (λ r m. m.links) rs h));
  bytes = few (length rs) (length rs) _ (omega arith) small (sum_bound (λ r. r.bytes) q rs
      (All-weaker IsMeasured (λ r. r.bytes < 2 ^ 64) (λ r m. m.bytes) rs h));
}

-- what came is within bounds
pub came_bound : (m : BTreeMap (List ℕ) Flow) (rs : List Receipt) → HasFlows m rs → length rs < 2 ^ 64
    → AllByRecursion IsMeasured rs → (p : List ℕ) → IsAtMost (2 ^ 128 - 2 ^ 64) (flow_in m p).came
came_bound m rs has small h p = subst (λ f. IsAtMost (2 ^ 128 - 2 ^ 64) f.came) (sym (has.flow p))
    (totals_bound (λ r. ends_at r.target p) rs small h)

-- what left is, also once something came
pub left_bound : (m mid : BTreeMap (List ℕ) Flow) (rs : List Receipt) (r : Receipt) → HasFlows m rs
    → length rs < 2 ^ 64 → AllByRecursion IsMeasured rs
    → ((p : List ℕ) → flow_in mid p ≡ cond (ends_at r.target p) (comes (flow_in m p) r) (flow_in m p))
    → (p : List ℕ) → IsAtMost (2 ^ 128 - 2 ^ 64) (flow_in mid p).left
left_bound m mid rs r has small h came p =
    let same : (flow_in mid p).left ≡ (flow_by rs p).left = ap (λ f. f.left) (came p)
    ∙ elim (ends_at r.target p) as (λ b. (cond b (comes (flow_in m p) r) (flow_in m p)).left
    ≡ (flow_in m p).left) [ true ↦ refl | false ↦ refl ] ∙ ap (λ f. f.left) (has.flow p) in
    subst (λ t. IsAtMost (2 ^ 128 - 2 ^ 64) t) (sym same) (totals_bound (λ r. ends_at r.source p) rs small h)

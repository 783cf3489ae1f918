-- What stays of a kind, by a set of what goes; and the four limits.
use Rattle.std.specs.Prelude.{◌≡◌, ◌+◌, ◌&&◌, ℕ, Bool, cond, not, nat_le, List, count_by}
use Rattle.std.proofs.Common.{ap, ◌∙◌}
use Rattle.std.specs.Ordering.{nat_cmp}
use Rattle.std.specs.Cmp.Lexicographic.{slice_cmp}
use Rattle.std.specs.BTreeSet.{BTreeSet, contains}
use Rattle.sheet_types.specs.Ordered.{is_among}
use Rattle.sheet_types.specs.Refuse.{greatest_items}
use Rattle.sheet_types.specs.Texts.{kind_of}
use Rattle.sheet_types.specs.World.{kind_is}
use Rattle.sheet_types.specs.declared.command.Item.{Item}
use Rattle.sheet_types.specs.declared.command.Request.{Request}
use Rattle.sheet_types.specs.declared.receipt.MovedKind.{MovedKind}
use Rattle.sheet_types.proofs.Sums.{sum_by-same}
use Rattle.field_home_laws.specs.Free.{adds_kind, ids_deleted, items_behind, stays}

-- of this kind, and none of a set
abbrev pub stays_out : MovedKind → BTreeSet (List ℕ) → Item → Bool
stays_out kind gone i = kind_is kind (kind_of i.content) && not (contains (slice_cmp nat_cmp) gone i.identity)

pub kept_kind : (kind : MovedKind) (qs : List Request) (items : List Item) (gone : BTreeSet (List ℕ)) (keeps : Bool)
    → ((id : List ℕ) → contains (slice_cmp nat_cmp) gone id ≡ is_among (ids_deleted qs) id)
    → keeps ≡ nat_le (count_by (λ q. adds_kind kind q.command) qs + count_by (stays_out kind gone) items)
    greatest_items
    → keeps ≡ nat_le (items_behind kind qs items) greatest_items
kept_kind kind qs items gone keeps same told =
    told ∙ ap (λ n. nat_le (count_by (λ q. adds_kind kind q.command) qs + n) greatest_items)
    (sum_by-same (λ i. cond (stays_out kind gone i) 1 0) (λ i. cond (stays kind (ids_deleted qs) i) 1 0)
    (λ i. ap (λ b. cond (kind_is kind (kind_of i.content) && not b) 1 0) (same i.identity)) items)

pub four : (a b c d a' b' c' d' : Bool) → a ≡ a' → b ≡ b' → c ≡ c' → d ≡ d'
    → (a && b && c && d) ≡ (a' && b' && c' && d')
four a b c d a' b' c' d' e f g h =
    ap (λ v. v && b && c && d) e ∙ ap (λ v. a' && v && c && d) f ∙ ap (λ v. a' && b' && v && d) g
    ∙ ap (λ v. a' && b' && c' && v) h

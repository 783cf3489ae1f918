-- The order of keys: contents by their heads, and where those are one by what stands behind.
use Rattle.std.proofs.Common.{◌≡◌, ℕ, suc, List, [], ◌∷◌, ◌++◌, length, refl, sym, ap, ◌∙◌}
use Rattle.std.proofs.Common.{arith}
use Rattle.std.specs.declared.cmp.Ordering.{Ordering}
use Rattle.std.specs.declared.cmp.Ordering.TheVariants.{Less, Equal, Greater}
use Rattle.std.specs.Ordering.{ordering_then, nat_cmp}
use Rattle.std.specs.Cmp.{nat_cmp_is}
use Rattle.std.specs.Cmp.Lexicographic.{slice_cmp}
use Rattle.std.proofs.lemmas.Map.Lookups.{exact_bytes}
use Rattle.sheet_types.proofs.KeyOrder.{slice_cmp_append}
use Rattle.sheet_types.specs.declared.command.Content.{Content}
use Rattle.sheet_types.specs.declared.command.Content.TheVariants.{Tile, Media, Row}
use Rattle.field_changes.specs.Keys.{head_of, words_of, body_of, content_key, key_of}

head_long : (c : Content) → length (head_of c) ≡ 7
head_long (Tile z x y b) = refl
head_long (Media t b) = refl
head_long (Row x y c l) = refl

-- where the heads are one, so are the lengths of what stands behind them
words_long : (a b : Content) → head_of a ≡ head_of b → length (words_of a) ≡ length (words_of b)
words_long (Tile z x y b) (Tile z2 x2 y2 b2) e = refl
words_long (Tile z x y b) (Media t2 b2) e = cc
words_long (Tile z x y b) (Row x2 y2 c2 l2) e = refl
words_long (Media t b) (Tile z2 x2 y2 b2) e = cc
words_long (Media t b) (Media t2 b2) e = cc
words_long (Media t b) (Row x2 y2 c2 l2) e = cc
words_long (Row x y c l) (Tile z2 x2 y2 b2) e = refl
words_long (Row x y c l) (Media t2 b2) e = cc
words_long (Row x y c l) (Row x2 y2 c2 l2) e = refl

-- what stands behind matters where the first part ties alone
then_same : (o : Ordering) (x y : Ordering) → (o ≡ Equal → x ≡ y) → ordering_then o x ≡ ordering_then o y
then_same Less x y h = refl
then_same Equal x y h = h refl
then_same Greater x y h = refl

pub content_order : (a b : Content) → slice_cmp nat_cmp (content_key a) (content_key b)
    ≡ ordering_then (slice_cmp nat_cmp (head_of a) (head_of b))
    (ordering_then (slice_cmp nat_cmp (words_of a) (words_of b)) (slice_cmp nat_cmp (body_of a) (body_of b)))
content_order a b =
    slice_cmp_append (head_of a) (head_of b) (words_of a ++ body_of a) (words_of b ++ body_of b)
    (head_long a ∙ sym (head_long b))
    ∙ then_same (slice_cmp nat_cmp (head_of a) (head_of b)) _ _
    (λ tie. slice_cmp_append (words_of a) (words_of b) (body_of a) (body_of b)
    (words_long a b (exact_bytes (head_of a) (head_of b) tie)))

long_same : (m n : ℕ) (o : Ordering) → m ≡ n → ordering_then (nat_cmp m n) o ≡ o
long_same m n o h = ap (λ x. ordering_then x o) (sym (nat_cmp_is m n Equal h))

-- behind identities of one length the contents decide
pub key_order : (s t : ℕ) (a b : List ℕ) (c d : Content) → length a ≡ length b
    → slice_cmp nat_cmp (key_of s a c) (key_of t b d) ≡ ordering_then (nat_cmp s t)
    (ordering_then (slice_cmp nat_cmp a b) (slice_cmp nat_cmp (content_key c) (content_key d)))
key_order s t a b c d h = ap (ordering_then (nat_cmp s t)) (long_same (length a) (length b)
    (slice_cmp nat_cmp (a ++ content_key c) (b ++ content_key d)) h
    ∙ slice_cmp_append a b (content_key c) (content_key d) h)

-- When two keys are one, and which contents are. A content is read from its key.
use Rattle.std.specs.Prelude.{◌≡◌, ℕ, ℤ, pos, negsuc, unsigned_abs, true, ◌&&◌, List, [], ◌∷◌, ◌++◌, length}
use Rattle.std.specs.Prelude.{bytes_eq, nat_eq, filter, count_by, refl}
use Rattle.std.proofs.Common.{ap, arith}
use Rattle.std.proofs.lemmas.Slice.Eq.{bytes_eq-Decides}
use Rattle.sheet_types.proofs.Basics.{bytes_eq_itself, bytes_eq_swap}
use Rattle.sheet_types.specs.Cut.{identities}
use Rattle.sheet_types.specs.declared.command.Content.{Content}
use Rattle.sheet_types.specs.declared.command.Content.TheVariants.{Tile, Media, Row}
use Rattle.sheet_types.specs.declared.command.Item.{Item}
use Rattle.field_changes.specs.Keys.{sign, content_key, same_content, rank_key}
use Rattle.field_changes.specs.Naming.{alike, copies}

-- keys of places are one where the places and the contents are
pub rank_same : (r s : ℕ) (c d : Content) → bytes_eq (rank_key r c) (rank_key s d)
    ≡ (nat_eq r s && same_content c d)
rank_same r s c d = refl

pub same_itself : (c : Content) → same_content c c ≡ true
same_itself c = bytes_eq_itself (content_key c)

pub same_swap : (c d : Content) → same_content c d ≡ same_content d c
same_swap c d = bytes_eq_swap (content_key c) (content_key d)

one_key : (c d : Content) → same_content c d ≡ true → content_key c ≡ content_key d
one_key c d e = (bytes_eq-Decides (content_key c) (content_key d)).0 e

-- equal contents have the same items, and as many
pub alike_same : (c d : Content) (items : List Item) → same_content c d ≡ true → alike c items ≡ alike d items
alike_same c d items e = ap (λ (k : List ℕ). identities (filter (λ i. bytes_eq k (content_key i.content)) items))
    (one_key c d e)

pub copies_same : {X : Type 0} (of : X → Content) (c d : Content) (xs : List X) → same_content c d ≡ true
    → copies of c xs ≡ copies of d xs
copies_same of c d xs e = ap (λ (k : List ℕ). count_by (λ x. bytes_eq k (content_key (of x))) xs) (one_key c d e)

-- ---- a content is read from its key

-- the sign of a number and how far it is from 0 are the number
pub same_number : (y z : ℤ) → sign y ≡ sign z → unsigned_abs y ≡ unsigned_abs z → y ≡ z
same_number (pos m) (pos n) s a = ap pos a
same_number (pos m) (negsuc n) s a = cc
same_number (negsuc m) (pos n) s a = cc
same_number (negsuc m) (negsuc n) s a = let e : m ≡ n = omega (arith, a) in ap negsuc e

-- lists of one length that begin equal lists are equal, and so is what follows
pub same_front : (a b f g : List ℕ) → length a ≡ length b → a ++ f ≡ b ++ g → (a ≡ b) × (f ≡ g)
same_front [] [] f g long e = (refl, e)
same_front [] (y ∷ ys) f g long e = absurd (omega (arith, long))
same_front (x ∷ xs) [] f g long e = absurd (omega (arith, long))
same_front (x ∷ xs) (y ∷ ys) f g long e =
    let first : x ≡ y = cc in
    let rest : xs ++ f ≡ ys ++ g = cc in
    let both = same_front xs ys f g (omega (arith, long)) rest in
    let front : xs ≡ ys = both.0 in
    (cc, both.1)

pub same_key : (one other : Content) → content_key one ≡ content_key other → one ≡ other
same_key (Tile z x y b) (Tile z2 x2 y2 b2) e =
    let za : sign z ≡ sign z2 = cc in
    let zb : unsigned_abs z ≡ unsigned_abs z2 = cc in
    let xa : sign x ≡ sign x2 = cc in
    let xb : unsigned_abs x ≡ unsigned_abs x2 = cc in
    let ya : sign y ≡ sign y2 = cc in
    let yb : unsigned_abs y ≡ unsigned_abs y2 = cc in
    let body : b ≡ b2 = cc in
    let zs : z ≡ z2 = same_number z z2 za zb in
    let xs : x ≡ x2 = same_number x x2 xa xb in
    let ys : y ≡ y2 = same_number y y2 ya yb in
    cc
same_key (Tile z x y b) (Media t2 b2) e = cc
same_key (Tile z x y b) (Row x2 y2 c2 l2) e = cc
same_key (Media t b) (Tile z2 x2 y2 b2) e = cc
same_key (Media t b) (Media t2 b2) e =
    let long : length t ≡ length t2 = cc in
    let rest : t ++ b ≡ t2 ++ b2 = cc in
    let both = same_front t t2 b b2 long rest in
    let front : t ≡ t2 = both.0 in
    let body : b ≡ b2 = both.1 in
    cc
same_key (Media t b) (Row x2 y2 c2 l2) e = cc
same_key (Row x y c l) (Tile z2 x2 y2 b2) e = cc
same_key (Row x y c l) (Media t2 b2) e = cc
same_key (Row x y c l) (Row x2 y2 c2 l2) e =
    let xa : sign x ≡ sign x2 = cc in
    let xb : unsigned_abs x ≡ unsigned_abs x2 = cc in
    let ya : sign y ≡ sign y2 = cc in
    let yb : unsigned_abs y ≡ unsigned_abs y2 = cc in
    let ca : sign c ≡ sign c2 = cc in
    let cb : unsigned_abs c ≡ unsigned_abs c2 = cc in
    let body : l ≡ l2 = cc in
    let xs : x ≡ x2 = same_number x x2 xa xb in
    let ys : y ≡ y2 = same_number y y2 ya yb in
    let cs : c ≡ c2 = same_number c c2 ca cb in
    cc

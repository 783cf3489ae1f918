-- Which texts are of no three parts, of no place and of no area.
use Rattle.std.proofs.Common.{◌≡◌, ◌≢◌, ◌≤ℤ◌, ◌<◌, ◌⊎◌, ◌∙◌, ◌==◌, ℕ, suc}
use Rattle.std.proofs.Common.{ℤ, pos, negsuc, List, [], ◌∷◌, ◌++◌}
use Rattle.std.proofs.Common.{Option, Some, None, IfNone, FitsSigned, w64, refl, sym, ap, subst, inl, inr, arith}
use Rattle.std.proofs.Common.{true, false}
use Rattle.std.specs.Fmt.{signed_decimal}
use Rattle.std.proofs.lemmas.Int.{ints}
use Rattle.sheet_types.specs.declared.frame.Rect.{Rect}
use Rattle.sheet_types.proofs.Commas.{cut_once, decimal_lacks}
use Rattle.command_verbs.specs.declared.areas.Place.{Place}
use Rattle.command_verbs.specs.Areas.{AreEnds, FitsWords, IsArea, IsCut, IsCutInThree, IsNatural, IsPlace, Lacks}
use Rattle.command_verbs.specs.Areas.{PlaceFits, slashed}
use Rattle.command_verbs.proofs.Ends.{mark_is_there}

-- ---- what has no slash

no_slash : (z : ℤ) → pos 0 ≤ℤ z → Lacks 47 (signed_decimal z)
no_slash (pos n) some = decimal_lacks 47 n (omega arith)
no_slash (negsuc n) some = absurd (omega (arith, ints, some))

pub lacks_both : (mark : ℕ) (xs ys : List ℕ) → Lacks mark xs → Lacks mark ys → Lacks mark (xs ++ ys)
lacks_both mark [] ys h g = g
lacks_both mark (x ∷ xs) ys h g = (h.0, lacks_both mark xs ys h.1 g)

hyphen_is_no_slash : (45 == 47) ≡ false
hyphen_is_no_slash = refl

ends_lack : (text : List ℕ) (first last : ℤ) → AreEnds text first last → Lacks 47 text
ends_lack text first last (inl it) = subst (Lacks 47) (sym it.0.0) (no_slash first it.0.1)
ends_lack text first last (inr it) =
    subst (Lacks 47) (sym it.0) (lacks_both 47 (signed_decimal first) (45 ∷ signed_decimal last) (no_slash first it.1)
    (hyphen_is_no_slash, no_slash last it.2))

-- ---- three parts

-- a text has them in one way
three_once : (text a b c x y z : List ℕ) → IsCutInThree text a b c → Lacks 47 x → Lacks 47 y
    → text ≡ slashed x y z
    → (a ≡ x) × (b ≡ y) × (c ≡ z)
three_once text a b c x y z cut lx ly is =
    let first = cut_once 47 a x (b ++ (47 ∷ c)) (y ++ (47 ∷ z)) cut.1 lx (sym cut.0 ∙ is) in
    let second = cut_once 47 b y c z cut.2 ly first.1 in
    (first.0, second.0, second.1)

abbrev NoThree : List ℕ → Type 0
NoThree text = (one two three : List ℕ) → Lacks 47 one → Lacks 47 two → text ≢ slashed one two three

pub no_slash_at_all : {X : Type 0} (o : Option X) (text : List ℕ) → Lacks 47 text → IfNone o (NoThree text)
no_slash_at_all None text lacks = λ one two three l m is. mark_is_there 47 one (two ++ (47 ∷ three))
    (subst (Lacks 47) is lacks)
no_slash_at_all (Some x) text lacks = tt

pub one_slash_alone : {X : Type 0} (o : Option X) (text one rest : List ℕ) → IsCut 47 text one rest
    → Lacks 47 rest
    → IfNone o (NoThree text)
one_slash_alone None text one rest cut lacks = λ x y z lx ly is.
    let same = cut_once 47 one x rest (y ++ (47 ∷ z)) cut.1 lx (sym cut.0 ∙ is) in
    mark_is_there 47 y z (subst (Lacks 47) same.1 lacks)
one_slash_alone (Some x) text one rest cut lacks = tt

pub three_of : (text one rest two three : List ℕ) → IsCut 47 text one rest → IsCut 47 rest two three
    → IsCutInThree text one two three
three_of text one rest two three cut more = (cut.0 ∙ ap (λ back. one ++ (47 ∷ back)) more.0, cut.1, more.1)

-- ---- a place

pub place_parts : (text a b c : List ℕ) (p : Place) → IsCutInThree text a b c → IsPlace text p
    → IsNatural a p.zoom
    × IsNatural b p.column × IsNatural c p.row
place_parts text a b c p cut it =
    let same = three_once text a b c (signed_decimal p.zoom) (signed_decimal p.column) (signed_decimal p.row) cut
    (no_slash p.zoom it.zoom) (no_slash p.column it.column) it.written in
    ((same.0, it.zoom), (same.1, it.column), (same.2, it.row))

abbrev NoPlace : List ℕ → Type 0
NoPlace text = (p : Place) → PlaceFits p → ¬ IsPlace text p

pub no_place : (o : Option Place) (text : List ℕ) → NoPlace text
    → IfNone o ((p : Place) → PlaceFits p → ¬ IsPlace text p)
no_place None text none = none
no_place (Some x) text none = tt

pub unplaced : (text : List ℕ) → NoThree text → NoPlace text
unplaced text none p fits it = none (signed_decimal p.zoom) (signed_decimal p.column) (signed_decimal p.row)
    (no_slash p.zoom it.zoom) (no_slash p.column it.column) it.written

-- ---- an area

pub area_parts : (text a b c : List ℕ) (r : Rect) → IsCutInThree text a b c → IsArea text r → IsNatural a r.zoom
    × AreEnds b r.column r.last_column × AreEnds c r.row r.last_row
area_parts text a b c r cut it =
    let same = three_once text a b c (signed_decimal r.zoom) it.columns it.rows cut (no_slash r.zoom it.zoom)
    (ends_lack it.columns r.column r.last_column it.across) it.written in (
      (same.0, it.zoom),
      subst (λ t. AreEnds t r.column r.last_column) (sym same.1) it.across,
      subst (λ t. AreEnds t r.row r.last_row) (sym same.2) it.down,
    )

abbrev NoArea : List ℕ → Type 0
NoArea text = (r : Rect) → FitsWords r → ¬ IsArea text r

pub no_area : (o : Option Rect) (text : List ℕ) → NoArea text
    → IfNone o ((r : Rect) → FitsWords r → ¬ IsArea text r)
no_area None text none = none
no_area (Some x) text none = tt

pub not_three : (text : List ℕ) → NoThree text → NoArea text
not_three text none r fits it = none (signed_decimal r.zoom) it.columns it.rows (no_slash r.zoom it.zoom)
    (ends_lack it.columns r.column r.last_column it.across) it.written

-- the parts, each as it is written
pub area_of : (text a b c : List ℕ) (r : Rect) → IsCutInThree text a b c → IsNatural a r.zoom
    → AreEnds b r.column r.last_column → AreEnds c r.row r.last_row → IsArea text r
area_of text a b c r cut zoom across down = record {
  columns = b;
  rows = c;
  written = cut.0 ∙ ap (λ x. slashed x b c) zoom.0;
  zoom = zoom.1;
  across = across;
  down = down;
}

pub place_of : (text a b c : List ℕ) (p : Place) → IsCutInThree text a b c → IsNatural a p.zoom
    → IsNatural b p.column
    → IsNatural c p.row → IsPlace text p
place_of text a b c p cut zoom column row = record {
  written = cut.0 ∙ ap (λ x. slashed x b c) zoom.0 ∙ ap (λ x. slashed (signed_decimal p.zoom) x c) column.0
      ∙ ap (λ x. slashed (signed_decimal p.zoom) (signed_decimal p.column) x) row.0;
  zoom = zoom.1;
  column = column.1;
  row = row.1;
}

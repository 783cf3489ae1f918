-- The start and the media linked to it.
use Rattle.std.specs.Prelude.{◌≡◌, ℕ, Bool, true, false, ◌&&◌, ◌||◌, List, flat_map, refl, bytes_eq}
use Rattle.std.proofs.Common.{sym, ap, ◌∙◌}
use Rattle.sheet_types.specs.Ordered.{is_among}
use Rattle.sheet_types.specs.Cut.{touches, strict_set}
use Rattle.sheet_types.specs.World.{Package}
use Rattle.sheet_types.specs.declared.command.Relation.{Relation}
use Rattle.identity_register.specs.Reach.{links_of}
use Rattle.cut.specs.Gathering.{media_at, leads_to_media}
use Rattle.cut.proofs.Testing.{any_same, any_links, among_those}

absorbs : (m s b e : Bool) → (((m && s) && e) && (s || b)) ≡ ((m && s) && e)
absorbs true true b true = refl
absorbs true true b false = refl
absorbs true false b e = refl
absorbs false s b e = refl

-- the media that the links of some items lead to are those that any link leads to from them
pub media_found : (p : Package) (ids : List (List ℕ)) (id : List ℕ)
    → is_among (media_at (is_among ids) (flat_map (links_of p) ids)) id
    ≡ is_among (media_at (is_among ids) p.links) id
media_found p ids id =
    let test : Relation → Bool = λ l. leads_to_media l && is_among ids l.base in
    among_those (λ l. l.other) test (flat_map (links_of p) ids) id
    ∙ any_links (λ l. test l && bytes_eq l.other id) p.links ids
    ∙ any_same (λ l. (test l && bytes_eq l.other id) && touches (is_among ids) l)
    (λ l. test l && bytes_eq l.other id)
    p.links (λ l. absorbs (leads_to_media l) (is_among ids l.base) (is_among ids l.other) (bytes_eq l.other id))
    ∙ sym (among_those (λ l. l.other) test p.links id)

-- the strict set, by what came in: first the start, then the media of its links
pub strict_members : (p : Package) (start first : List (List ℕ))
    → ((id : List ℕ) → is_among first id ≡ is_among start id) → (id : List ℕ)
    → (is_among first id || is_among (media_at (is_among first) (flat_map (links_of p) first)) id)
    ≡ strict_set p start id
strict_members p start first same id =
    ap (λ b. b || is_among (media_at (is_among first) (flat_map (links_of p) first)) id) (same id)
    ∙ ap (λ b. is_among start id || b) (media_found p first id
    ∙ ap (λ t. is_among (media_at t p.links) id) (λ n. λ k. same k n))

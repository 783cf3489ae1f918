-- Items of the same kinds and identities have the same numbers.
use Rattle.std.proofs.Common.{◌≡◌, ◌<◌, ◌∙◌, refl, ℕ, length, take, List, [], ◌∷◌, ◌++◌}
use Rattle.std.proofs.Common.{◌+◌, map, true, ap, sym}
use Rattle.std.proofs.Common.{subst, get_or, drop}
use Rattle.std.specs.Prelude.{bytes_eq, if◌then◌else◌}
use Rattle.std.specs.List.{AllZip}
use Rattle.std.proofs.lemmas.List.{take_more}
use Rattle.std.proofs.lemmas.Slice.Zip.{all_zipped_more}
use Rattle.sheet_types.specs.Texts.{kind_of}
use Rattle.sheet_types.specs.World.{is_item_kind, item_moved}
use Rattle.sheet_types.specs.declared.command.Content.{Content}
use Rattle.sheet_types.specs.declared.command.Content.TheVariants.{Tile, Media, Row}
use Rattle.sheet_types.specs.declared.command.Item.{Item}
use Rattle.sheet_types.specs.declared.receipt.Moved.{Moved}
use Rattle.view_export.specs.Numbers.{counted, next_number, no_counts, number_behind, number_of}
use Rattle.view_export.specs.declared.numbers.Counts.{Counts}
use Rattle.views.specs.ByItems.{IsBareOf}

pub of_item : (content : Content) → is_item_kind (kind_of content) ≡ true
of_item (Tile zoom column row bytes) = refl
of_item (Media content_type bytes) = refl
of_item (Row x y code label) = refl

-- what is made of its kind and identity is bare of it
pub bare_is : (told : Moved) (bare : Item) → bare.identity ≡ told.base
    → (is_item_kind told.kind ≡ true → kind_of bare.content ≡ told.kind) → IsBareOf told bare
bare_is told bare named kind i is =
    let same : told.kind ≡ kind_of i.content = ap (λ m. m.kind) is in
    (named ∙ ap (λ m. m.base) is, kind (ap is_item_kind same ∙ of_item i.content) ∙ same)

alike_counted : (c : Counts) (a b : Content) → kind_of a ≡ kind_of b → (counted c a ≡ counted c b)
    × (next_number c a ≡ next_number c b)
alike_counted c (Tile zoom column row bytes) (Tile zoom' column' row' bytes') e = (refl, refl)
alike_counted c (Media content_type bytes) (Media content_type' bytes') e = (refl, refl)
alike_counted c (Row x y code label) (Row x' y' code' label') e = (refl, refl)
alike_counted c (Tile zoom column row bytes) (Media content_type bytes') e = absurd (cc)
alike_counted c (Tile zoom column row bytes) (Row x y code label) e = absurd (cc)
alike_counted c (Media content_type bytes) (Tile zoom column row bytes') e = absurd (cc)
alike_counted c (Media content_type bytes) (Row x y code label) e = absurd (cc)
alike_counted c (Row x y code label) (Tile zoom column row bytes) e = absurd (cc)
alike_counted c (Row x y code label) (Media content_type bytes) e = absurd (cc)

numbers_alike : (c : Counts) (told : List Moved) (bares items : List Item) → AllZip IsBareOf told bares
    → told ≡ map item_moved items → (id : List ℕ) → number_behind c bares id ≡ number_behind c items id
numbers_alike c [] [] [] each e id = refl
numbers_alike c [] [] (i ∷ items) each e id = absurd (cc)
numbers_alike c [] (b ∷ bares) items each e id = absurd each
numbers_alike c (m ∷ told) [] items each e id = absurd each
numbers_alike c (m ∷ told) (b ∷ bares) [] each e id = absurd (cc)
numbers_alike c (m ∷ told) (b ∷ bares) (i ∷ items) each e id =
    let head : m ≡ item_moved i = ap (λ ms. get_or ms 0 m) e in
    let rest : told ≡ map item_moved items = ap (λ ms. drop 1 ms) e in
    let bare = each.0 i head in
    let alike = alike_counted c b.content i.content bare.1 in
    let later : number_behind (counted c b.content) bares id ≡ number_behind (counted c i.content) items id =
    ap (λ k. number_behind k bares id) alike.0 ∙ numbers_alike (counted c i.content) told bares items each.1 rest
    id in
    ap (λ k. if bytes_eq k id then next_number c b.content else number_behind (counted c b.content) bares id) bare.0
    ∙ ap (λ n. if bytes_eq i.identity id then n else number_behind (counted c b.content) bares id) alike.1
    ∙ ap (λ n. if bytes_eq i.identity id then next_number c i.content else n) later

pub numbers_of_told : (told : List Moved) (bares items : List Item) → AllZip IsBareOf told bares
    → told ≡ map item_moved items
    → (id : List ℕ) → number_of bares id ≡ number_of items id
numbers_of_told told bares items each e id = numbers_alike no_counts told bares items each e id

-- one more of those that a loop goes over, and what was made of it
pub zip_more : {A B : Type 0} (R : A → B → Type 0) (rows : List A) (i : ℕ) (row : A) (made now : List B) (x : B)
    → i < length rows → row ≡ get_or rows i row → now ≡ made ++ x ∷ [] → AllZip R (take i rows) made
    → R row x
    → AllZip R (take (i + 1) rows) now
zip_more R rows i row made now x less is pushed all one =
    let cut : take (i + 1) rows ≡ take i rows ++ row ∷ [] = take_more rows i row less
    ∙ ap (λ r. take i rows ++ r ∷ []) (sym is) in
    subst (λ l. AllZip R l now) (sym cut) (subst (AllZip R (take i rows ++ row ∷ [])) (sym pushed)
    (all_zipped_more R (take i rows) made row x all one))

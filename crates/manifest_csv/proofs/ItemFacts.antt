-- Items one after the other, each found under the identity that was told of it.
use Rattle.std.proofs.Common.{◌≡◌, ◌∙◌, refl, ◌<◌, ◌≤◌, ◌+◌, ℕ, zero, suc, List, []}
use Rattle.std.proofs.Common.{◌∷◌, ◌++◌, Option, Some, Result}
use Rattle.std.proofs.Common.{Ok, Err, map, length, take, drop, get_or, ap, sym, subst, inl, inr, arith, append-nil}
use Rattle.std.specs.Prelude.{Contains}
use Rattle.std.specs.Io.KnownBytes.{Appends}
use Rattle.std.specs.List.{AllZip}
use Rattle.std.proofs.KnownBytes.{Appends-trans}
use Rattle.std.proofs.lemmas.List.{length-map, take_more, take_all}
use Rattle.std.proofs.lemmas.Slice.Zip.{all_zipped_more}
use Rattle.std.proofs.lemmas.List.Concat.{flat_map-append}
use Rattle.csv.specs.Writing.{default_writer, row_text}
use Rattle.sqlite.specs.State.{State}
use Rattle.store_sql.specs.Transactions.{Looks}
use Rattle.store_sql.proofs.Staying.{looks_stays}
use Rattle.sheet_types.specs.World.{Package, item_key, item_moved, item_of, link_moved}
use Rattle.sheet_types.specs.declared.command.Item.{Item}
use Rattle.sheet_types.specs.declared.command.Relation.{Relation}
use Rattle.sheet_types.specs.declared.frame.Frame.{Frame}
use Rattle.sheet_types.specs.declared.receipt.Moved.{Moved}
use Rattle.sheet_types.proofs.Same.{In, In-of_map, Contains-In}
use Rattle.package_tables.specs.Calls.{Answers}
use Rattle.package_tables.specs.Package.{Tables}
use Rattle.identity_register.specs.Calls.{Sees}
use Rattle.identity_register.specs.Reads.{Says}
use Rattle.identity_register.proofs.Answering.{item_is}
use Rattle.identity_register.proofs.Looking.{fails, sees_so}
use Rattle.identity_register.proofs.Finding.{contained, in_arranged}
use Rattle.manifest_csv.specs.ByItems.{IsLinkTold, IsItemOf, OfPackage}
use Rattle.manifest_csv.specs.Manifests.{item_fields, records_text}

-- what a store says of its package, as an answer of its tables
pub of_package : {X E : Type 0} (Answer : Package → X → Type 0) {old new : State} (r : Result X E)
    → Looks {X = X} {E = E} (Sees (λ f p x. Answer p x)) old new r
    → Looks {X = X} {E = E} (Answers (OfPackage Answer)) old new r
of_package Answer (Ok x) it = record {
  rests = it.rests;
  done = λ clean. let d = it.done clean in (
    d.0,
    (
      d.1.0,
      λ formed f p says. d.1.1 f p
          (record { formed = formed; says = says }),
    ),
  );
  was_open = it.was_open;
  holds = it.holds;
  survives = it.survives;
}
of_package Answer (Err e) it = record {
  rests = it.rests;
  done = λ clean. tt;
  was_open = it.was_open;
  holds = it.holds;
  survives = it.survives;
}

-- an item of a package is found under its identity
pub found_there : (f : Frame) (p : Package) (t : Tables) → Says f p t → (id : List ℕ)
    → IsItemOf p id (item_of p id)
found_there f p t says id = record { is = refl; each = each }
  where
    each : (item : Item) → Contains p.items item → item.identity ≡ id → item_of p id ≡ Some item
    each item there named =
        let numbered = In-of_map (λ m. m.item) item (says.numbered)
        (in_arranged item_key (map (λ m. m.item) says.numbered) item
        (subst (In item) says.items (contained p.items item there))) in
        let is : item_of p item.identity ≡ Some item =
        subst (λ i. item_of p i.identity ≡ Some i) numbered.2 (item_is f p t says numbered.0 numbered.1) in
        subst (λ k. item_of p k ≡ Some item) named is

-- so what a look finds is the item
pub found_item : {E : Type 0} (id : List ℕ) {old new : State} (r : Result (Option Item) E)
    → Looks {X = Option Item} {E = E} (Sees (λ f p found. found ≡ item_of p id)) old new r
    → Looks {X = Option Item} {E = E} (Sees (λ f p found. IsItemOf p id found)) old new r
found_item id (Ok x) it = sees_so (λ f p found. found ≡ item_of p id) refl it
    (λ f p t says is. subst (IsItemOf p id) (sym is) (found_there f p t says id))
found_item id (Err e) it = fails (Err e) refl (looks_stays it)

item_in : (items : List Item) (i : ℕ) (moved : Moved) → i < length items
    → moved ≡ get_or (map item_moved items) i moved
    → (item : Item) × In item items × (item_moved item ≡ moved)
    × (take (suc i) items ≡ take i items ++ item ∷ [])
item_in [] i moved within is = absurd (omega (arith, within))
item_in (x ∷ xs) zero moved within is = (x, inl refl, sym is, refl)
item_in (x ∷ xs) (suc i) moved within is =
    let it = item_in xs i moved (omega (arith, within)) is in
    (it.0, inr it.1, it.2, ap (λ l. x ∷ l) it.3)

-- the item that this is told of, behind so many
pub item_told : (items : List Item) (told : List Moved) (i : ℕ) (moved : Moved) → told ≡ map item_moved items
    → i < length told → moved ≡ get_or told i moved
    → (item : Item) × Contains items item × (item_moved item ≡ moved)
    × (take (i + 1) items ≡ take i items ++ item ∷ [])
item_told items told i moved all within is =
    let less : i < length items = omega (arith, within, ap length all, length-map items item_moved) in
    let it = item_in items i moved less (is ∙ ap (λ l. get_or l i moved) all) in
    let next : i + 1 ≡ suc i = omega arith in
    (it.0, Contains-In it.0 items it.1, it.2, rw next it.3)

-- one record more
pub record_more : (a b c : Option (List ℕ)) (items : List Item) (i : ℕ) (item : Item)
    → take (i + 1) items ≡ take i items ++ item ∷ []
    → Appends a b (records_text item_fields (take i items)) → Appends b c
    (row_text default_writer (item_fields item))
    → Appends a c (records_text item_fields (take (i + 1) items))
record_more a b c items i item more before here =
    let text : records_text item_fields (take (i + 1) items) ≡ records_text item_fields (take i items)
    ++ row_text default_writer (item_fields item) =
    ap (records_text item_fields) more ∙ flat_map-append (λ x. row_text default_writer (item_fields x))
    (take i items)
    (item ∷ [])
    ∙ ap (λ l. records_text item_fields (take i items) ++ l)
    (append-nil (row_text default_writer (item_fields item))) in
    subst (Appends a c) (sym text) (Appends-trans a b c _ _ before here)

-- the first record, and those of items and of links behind it
pub text_is : (t u : Option (List ℕ)) (text head items links : List ℕ) → t ≡ Some head → Appends t u items
    → Appends u (Some text) links → text ≡ head ++ (items ++ links)
text_is t u text head items links is one two =
    subst (λ v. Appends v (Some text) (items ++ links)) is (Appends-trans t u (Some text) items links one two)

-- all records, where all items were told
pub records_all : (a b : Option (List ℕ)) (items : List Item) (told : List Moved) (i : ℕ)
    → told ≡ map item_moved items → length told ≤ i
    → Appends a b (records_text item_fields (take i items)) → Appends a b (records_text item_fields items)
records_all a b items told i all past sent =
    let end : length items ≤ i = omega (arith, past, ap length all, length-map items item_moved) in
    subst (λ is. Appends a b (records_text item_fields is)) (take_all i items end) sent

-- one more of those that a loop goes over, and what was made of it
pub zip_more : {A B : Type 0} (R : A → B → Type 0) (rows : List A) (i : ℕ) (row : A) (made now : List B) (x : B)
    → i < length rows → row ≡ get_or rows i row → now ≡ made ++ x ∷ [] → AllZip R (take i rows) made
    → R row x
    → AllZip R (take (i + 1) rows) now
zip_more R rows i row made now x less is pushed all one =
    let cut : take (i + 1) rows ≡ take i rows ++ row ∷ [] = take_more rows i row less
    ∙ ap (λ r. take i rows ++ r ∷ []) (sym is) in
    subst (λ l. AllZip R l now) (sym cut) (subst (AllZip R (take i rows ++ row ∷ [])) (sym pushed)
    (all_zipped_more R (take i rows) made row x all one))

-- links that are told of are those
pub links_told : (told : List Moved) (links of : List Relation) → AllZip IsLinkTold told links
    → told ≡ map link_moved of → links ≡ of
links_told [] [] [] each e = refl
links_told [] [] (l ∷ of) each e = absurd (cc)
links_told [] (x ∷ links) of each e = absurd each
links_told (m ∷ told) [] of each e = absurd each
links_told (m ∷ told) (x ∷ links) [] each e = absurd (cc)
links_told (m ∷ told) (x ∷ links) (l ∷ of) each e =
    let head : m ≡ link_moved l = ap (λ ms. get_or ms 0 m) e in
    let rest : told ≡ map link_moved of = ap (λ ms. drop 1 ms) e in
    ap (λ y. y ∷ links) (each.0 l head) ∙ ap (λ ys. l ∷ ys) (links_told told links of each.1 rest)

-- What a package holds after a command, by what its receipt moved.
use Rattle.std.specs.Prelude.{◌≡◌, ◌≤◌, ℕ, ◌+◌, ◌-◌, ◌*◌, nat_le, pos, true, cond, not}
use Rattle.std.specs.Prelude.{List, [], ◌∷◌, find, length}
use Rattle.std.specs.Prelude.{refl, bytes_eq, Some, count_by, sum_by}
use Rattle.std.proofs.Common.{sym, ap, subst, ◌∙◌, arith}
use Rattle.std.proofs.lemmas.Bool.{and_parts, leb-true}
use Rattle.std.proofs.lemmas.List.Sums.{sum_by-cons}
use Rattle.std.specs.List.{AllByRecursion}
use Rattle.std.specs.Option.{option_map_or}
use Rattle.sheet_types.specs.Answers.{sums_held}
use Rattle.sheet_types.specs.Matrix.{is_within}
use Rattle.sheet_types.specs.Ordered.{put, without}
use Rattle.sheet_types.specs.Refuse.{has_good_size, is_length_within}
use Rattle.sheet_types.specs.Register.{IsRegister, IsKeptPackage, IsFit}
use Rattle.sheet_types.specs.Step.{receipt_of, added_item, relation, count_of, links_of}
use Rattle.sheet_types.specs.Texts.{size, kind_of}
use Rattle.sheet_types.specs.World.{World, Package, is_live, holdings, item_of, item_key, link_key, item_moved}
use Rattle.sheet_types.specs.World.{link_moved, is_tile, is_medium, is_row, is_item_kind}
use Rattle.sheet_types.specs.declared.command.Command.{Command}
use Rattle.sheet_types.specs.declared.command.Command.TheVariants.{Add, Delete, Link, Unlink, Split, Merge}
use Rattle.sheet_types.specs.declared.command.Content.{Content}
use Rattle.sheet_types.specs.declared.command.Content.TheVariants.{Tile, Media, Row}
use Rattle.sheet_types.specs.declared.command.Mapping.TheVariants.{TilesMedia, RowsMedia, RowsTiles}
use Rattle.sheet_types.specs.declared.command.Item.{Item}
use Rattle.sheet_types.specs.declared.command.Relation.{Relation}
use Rattle.sheet_types.specs.declared.command.Request.{Request}
use Rattle.sheet_types.specs.declared.receipt.Moved.{Moved}
use Rattle.sheet_types.specs.declared.receipt.MovedKind.TheVariants.{TileItem, MediaItem, RowItem}
use Rattle.sheet_types.specs.declared.receipt.Sums.{Sums}
use Rattle.sheet_types.proofs.Distinct.{distinct_counts}
use Rattle.sheet_types.proofs.Every.{All-weaker}
use Rattle.sheet_types.proofs.Fitting.{item_kind_of}
use Rattle.sheet_types.proofs.Found.{found}
use Rattle.sheet_types.proofs.Order.{sum_by-put, counts_arranged}
use Rattle.sheet_types.proofs.Sums.{length_sum}
use Rattle.sheet_types.proofs.Without.{take_one}
use Rattle.sheet_laws.proofs.Facts.{kept_at}
use Rattle.identity_register.specs.Changes.{item_added, item_deleted, link_added, link_removed}
use Rattle.world_members.specs.Carrying.{Meets, after_command}
use Rattle.world_members.specs.Laws.{package_of}
use Rattle.world_members.specs.Steps.{SumsAfter, BytesWithin, IsWithin, HasWhatGoes, sums_moved, sums_more, sums_less}
use Rattle.world_members.specs.Steps.{sums_after}

-- ---- sums

abbrev sums_of : ℕ → ℕ → ℕ → ℕ → ℕ → Sums
sums_of a b c d e = record { tiles = a; media = b; rows = c; links = d; bytes = e }

same_sums : (a b c d e a' b' c' d' e' : ℕ) → a ≡ a' → b ≡ b' → c ≡ c' → d ≡ d' → e ≡ e'
    → sums_of a b c d e ≡ sums_of a' b' c' d' e'
same_sums a b c d e a' b' c' d' e' p q r s t = cc

-- how much one item is, and one link
abbrev sums_of_item : Item → Sums
sums_of_item i = record {
  tiles = cond (is_tile i) 1 0;
  media = cond (is_medium i) 1 0;
  rows = cond (is_row i) 1 0;
  links = 0;
  bytes = size i.content;
}

abbrev sums_of_link : Sums
sums_of_link = record { tiles = 0; media = 0; rows = 0; links = 1; bytes = 0 }

-- the sums of some moved things
abbrev sums_of_things : List Moved → Sums
sums_of_things things = record {
  tiles = count_of TileItem things;
  media = count_of MediaItem things;
  rows = count_of RowItem things;
  links = links_of things;
  bytes = sum_by (λ m. m.size) things;
}

alone : (n : ℕ) → 0 + n ≡ n
alone n = omega arith

item_alone : (i : Item) → sums_of_things (item_moved i ∷ []) ≡ sums_of_item i
item_alone i =
    same_sums (0 + cond (is_tile i) 1 0) (0 + cond (is_medium i) 1 0) (0 + cond (is_row i) 1 0)
    (0 + cond (not (is_item_kind (kind_of i.content))) 1 0) (0 + size i.content) (cond (is_tile i) 1 0)
    (cond (is_medium i) 1 0) (cond (is_row i) 1 0) 0 (size i.content)
    (alone (cond (is_tile i) 1 0)) (alone (cond (is_medium i) 1 0)) (alone (cond (is_row i) 1 0))
    (ap (λ b. 0 + cond (not b) 1 0) (item_kind_of i.content)) (alone (size i.content))

link_alone : (l : Relation) → sums_of_things (link_moved l ∷ []) ≡ sums_of_link
link_alone l = elim l.mapping as (λ m. sums_of_things (link_moved
    (record { mapping = m; base = l.base; other = l.other }) ∷ []) ≡ sums_of_link)
    [ TilesMedia ↦ refl | RowsMedia ↦ refl | RowsTiles ↦ refl ]

-- ---- one item or link more, and one less

item_more : (i : Item) (p : Package) → sums_held (item_added i p) ≡ sums_more (sums_of_item i) (sums_held p)
item_more i p =
    same_sums (count_by is_tile (put item_key i p.items)) (count_by is_medium (put item_key i p.items))
    (count_by is_row (put item_key i p.items)) (length p.links)
    (sum_by (λ x. size x.content) (put item_key i p.items))
    (count_by is_tile p.items + cond (is_tile i) 1 0) (count_by is_medium p.items + cond (is_medium i) 1 0)
    (count_by is_row p.items + cond (is_row i) 1 0) (length p.links + 0)
    (sum_by (λ x. size x.content) p.items + size i.content)
    (sum_by-put item_key (λ x. cond (is_tile x) 1 0) i p.items)
    (sum_by-put item_key (λ x. cond (is_medium x) 1 0) i p.items)
    (sum_by-put item_key (λ x. cond (is_row x) 1 0) i p.items) (omega arith)
    (sum_by-put item_key (λ x. size x.content) i p.items)

link_more : (l : Relation) (p : Package) → sums_held (link_added l p) ≡ sums_more sums_of_link (sums_held p)
link_more l p =
    let n : length (put link_key l p.links) ≡ length p.links + 1 =
    sym (length_sum (λ _. 1) (λ _. refl) (put link_key l p.links)) ∙ sum_by-put link_key (λ _. 1) l p.links
    ∙ ap (λ k. k + 1) (length_sum (λ _. 1) (λ _. refl) p.links) in
    same_sums (count_by is_tile p.items) (count_by is_medium p.items) (count_by is_row p.items)
    (length (put link_key l p.links)) (sum_by (λ x. size x.content) p.items)
    (count_by is_tile p.items + 0) (count_by is_medium p.items + 0) (count_by is_row p.items + 0) (length p.links + 1)
    (sum_by (λ x. size x.content) p.items + 0)
    (omega arith) (omega arith) (omega arith) n (omega arith)

-- what is left where one part is taken from a whole, and that it was there
left : (rest part whole : ℕ) → rest + part ≡ whole → rest ≡ whole - part
left rest part whole e = omega arith

there : (rest part whole : ℕ) → rest + part ≡ whole → part ≤ whole
there rest part whole e = omega arith

abbrev Taken : Sums → Package → Package → Type 0
Taken some p next = IsWithin some (sums_held p) × (sums_held next ≡ sums_less some (sums_held p))

item_less : (id : List ℕ) (i : Item) (p : Package) → count_by (λ x. bytes_eq x.identity id) p.items ≤ 1
    → item_of p id ≡ Some i → Taken (sums_of_item i) p (item_deleted id p)
item_less id i p one is =
    let rest : List Item = without (λ x. x.identity) (id ∷ []) p.items in
    let take : (f : Item → ℕ) → sum_by f rest + f i ≡ sum_by f p.items =
    λ f. take_one (λ x. x.identity) id f i p.items one is in
    let tiles : sum_by (λ x. cond (is_tile x) 1 0) rest + cond (is_tile i) 1 0 ≡ count_by is_tile p.items =
    take (λ x. cond (is_tile x) 1 0) in
    let media : sum_by (λ x. cond (is_medium x) 1 0) rest + cond (is_medium i) 1 0 ≡ count_by is_medium p.items =
    take (λ x. cond (is_medium x) 1 0) in
    let rows : sum_by (λ x. cond (is_row x) 1 0) rest + cond (is_row i) 1 0 ≡ count_by is_row p.items =
    take (λ x. cond (is_row x) 1 0) in
    let bytes : sum_by (λ x. size x.content) rest + size i.content ≡ sum_by (λ x. size x.content) p.items =
    take (λ x. size x.content) in (
      record {
        tiles = there (count_by is_tile rest) (cond (is_tile i) 1 0) (count_by is_tile p.items) tiles;
        media = there (count_by is_medium rest) (cond (is_medium i) 1 0) (count_by is_medium p.items) media;
        rows = there (count_by is_row rest) (cond (is_row i) 1 0) (count_by is_row p.items) rows;
        links = there (length p.links) 0 (length p.links) (omega arith);
        bytes = there (sum_by (λ x. size x.content) rest) (size i.content) (sum_by (λ x. size x.content) p.items)
            bytes;
      },
      same_sums (count_by is_tile rest) (count_by is_medium rest) (count_by is_row rest) (length p.links)
          (sum_by (λ x. size x.content) rest)
          (count_by is_tile p.items - cond (is_tile i) 1 0) (count_by is_medium p.items - cond (is_medium i) 1 0)
          (count_by is_row p.items - cond (is_row i) 1 0) (length p.links - 0)
          (sum_by (λ x. size x.content) p.items - size i.content)
          (left (count_by is_tile rest) (cond (is_tile i) 1 0) (count_by is_tile p.items) tiles)
          (left (count_by is_medium rest) (cond (is_medium i) 1 0) (count_by is_medium p.items) media)
          (left (count_by is_row rest) (cond (is_row i) 1 0) (count_by is_row p.items) rows)
          (left (length p.links) 0 (length p.links) (omega arith))
          (left (sum_by (λ x. size x.content) rest) (size i.content) (sum_by (λ x. size x.content) p.items) bytes),
    )

link_less : (l m : Relation) (p : Package) → count_by (λ x. bytes_eq (link_key x) (link_key l)) p.links ≤ 1
    → find (λ x. bytes_eq (link_key x) (link_key l)) p.links ≡ Some m → Taken sums_of_link p (link_removed l p)
link_less l m p one is =
    let rest : List Relation = without link_key (link_key l ∷ []) p.links in
    let taken : sum_by (λ _. 1) rest + 1 ≡ sum_by (λ _. 1) p.links =
    take_one link_key (link_key l) (λ _. 1) m p.links one is in
    let links : length rest + 1 ≡ length p.links = ap (λ n. n + 1) (sym (length_sum (λ _. 1) (λ _. refl) rest))
    ∙ taken ∙ length_sum (λ _. 1) (λ _. refl) p.links in (
      record {
        tiles = omega arith;
        media = omega arith;
        rows = omega arith;
        links = there (length rest) 1 (length p.links) links;
        bytes = omega arith;
      },
      same_sums (count_by is_tile p.items) (count_by is_medium p.items) (count_by is_row p.items) (length rest)
          (sum_by (λ x. size x.content) p.items)
          (count_by is_tile p.items - 0) (count_by is_medium p.items - 0) (count_by is_row p.items - 0)
          (length p.links - 1) (sum_by (λ x. size x.content) p.items - 0)
          (omega arith) (omega arith) (omega arith) (left (length rest) 1 (length p.links) links) (omega arith),
    )

-- ---- a command

-- what is said of sums is said of equal ones
taken_as : (some other : Sums) (p next : Package) → some ≡ other → Taken other p next → Taken some p next
taken_as some other p next same taken = subst (λ s. Taken s p next) (sym same) taken

module _ (w : World) (id at : List ℕ) (register : IsRegister w) where
  abbrev asking : Command → Request
  asking command = record { id = id; at = at; command = command }

  abbrev Counted : Command → Type 0
  Counted command =
      HasWhatGoes command (sums_moved (receipt_of w (asking command))) (sums_held (holdings w (package_of command)))
      × (sums_held (after_command (receipt_of w (asking command)) command (holdings w (package_of command)))
      ≡ sums_after command (sums_moved (receipt_of w (asking command)))
      (sums_held (holdings w (package_of command))))

  counted : (command : Command) → is_live w (package_of command) ≡ true
      → Meets command (holdings w (package_of command)) → Counted command
  counted (Add p identity content) live meets =
      let i : Item = added_item identity content in (
        tt,
        item_more (added_item identity content) (holdings w p)
            ∙ ap (λ s. sums_more s (sums_held (holdings w p))) (sym (item_alone (added_item identity content))),
      )
  counted (Delete p identity) live meets =
      let x : Package = holdings w p in
      let f : (i : Item) × (item_of (holdings w p) identity ≡ Some i) =
      found (λ i. bytes_eq i.identity identity) (holdings w p).items meets.0 in
      let moved : sums_of_things (option_map_or (λ i. item_moved i ∷ []) (item_of (holdings w p) identity) [])
      ≡ sums_of_item f.0 =
      ap (λ o. sums_of_things (option_map_or (λ i. item_moved i ∷ []) o [])) f.1 ∙ item_alone f.0 in
      let k : IsKeptPackage w (holdings w p) = kept_at w p register live in
      taken_as (sums_of_things (option_map_or (λ i. item_moved i ∷ []) (item_of (holdings w p) identity) []))
      (sums_of_item f.0) (holdings w p) (item_deleted identity (holdings w p)) moved
      (item_less identity f.0 (holdings w p) (distinct_counts (λ i. i.identity) identity (holdings w p).items
      k.identities) f.1)
  counted (Link p mapping base other) live meets = (
    tt,
    link_more (relation mapping base other) (holdings w p)
        ∙ ap (λ s. sums_more s (sums_held (holdings w p))) (sym (link_alone (relation mapping base other))),
  )
  counted (Unlink p mapping base other) live meets =
      let l : Relation = relation mapping base other in
      let f : (m : Relation) × (find (λ m. bytes_eq (link_key m) (link_key (relation mapping base other)))
      (holdings w p).links ≡ Some m) = found (λ m. bytes_eq (link_key m)
      (link_key (relation mapping base other))) (holdings w p).links meets.there in
      let k : IsKeptPackage w (holdings w p) = kept_at w p register live in
      taken_as (sums_of_things (link_moved (relation mapping base other) ∷ [])) sums_of_link (holdings w p)
      (link_removed (relation mapping base other) (holdings w p)) (link_alone (relation mapping base other))
      (link_less (relation mapping base other) f.0 (holdings w p)
      (counts_arranged link_key (link_key (relation mapping base other)) (holdings w p).links k.links) f.1)
  counted (Split p child mode rect) live meets = absurd meets
  counted (Merge child into ticket) live meets = absurd meets

pub sums_after_command : SumsAfter
sums_after_command w q register live fits = counted w q.id q.at register q.command live fits.meets

-- ---- the bytes of items

-- a length within bounds
is_short : (low high : ℕ) (xs : List ℕ) → is_length_within low high xs ≡ true → length xs ≤ high
is_short low high xs h = leb-true (length xs) high (and_parts (nat_le low (length xs)) (nat_le (length xs) high) h).1

-- an item of a good size is no greater than the greatest
pub size_within : (content : Content) → has_good_size content ≡ true → size content ≤ 1048576
size_within (Tile zoom column row bytes) good = is_short 1 1048576 bytes good
size_within (Media content_type bytes) good = is_short 1 1048576 bytes
    (and_parts (is_length_within 1 1048576 bytes) (is_length_within 1 100 content_type) good).0
size_within (Row x y code label) good =
    let few : length label ≤ 200 = is_short 0 200 label (and_parts (is_length_within 0 200 label)
    (is_within (pos 0) (pos 999999) code) good).0 in
    omega (arith, few)

-- and is of one kind
bytes_of_one : (id : List ℕ) (content : Content) → has_good_size content ≡ true
    → size content ≤ 1048576 * ((sums_of_item (added_item id content)).tiles +
    (sums_of_item (added_item id content)).media + (sums_of_item (added_item id content)).rows)
bytes_of_one id (Tile zoom column row bytes) good = size_within (Tile zoom column row bytes) good
bytes_of_one id (Media content_type bytes) good = size_within (Media content_type bytes) good
bytes_of_one id (Row x y code label) good = size_within (Row x y code label) good

bytes_of_all : (items : List Item) → AllByRecursion (λ i. has_good_size i.content ≡ true) items
    → sum_by (λ i. size i.content) items ≤ 1048576 * (count_by is_tile items + count_by is_medium items + count_by
    is_row items)
bytes_of_all [] h = omega arith
bytes_of_all (i ∷ items) h = omega (
  arith,
  bytes_of_one i.identity i.content h.0,
  bytes_of_all items h.1,
  sum_by-cons (λ x. size x.content) i items,
  sum_by-cons (λ x. cond (is_tile x) 1 0) i items,
  sum_by-cons (λ x. cond (is_medium x) 1 0) i items,
  sum_by-cons (λ x. cond (is_row x) 1 0) i items,
)

pub bytes_within : BytesWithin
bytes_within w p register live =
    let k : IsKeptPackage w (holdings w p) = kept_at w p register live in
    bytes_of_all (holdings w p).items (All-weaker (IsFit w (holdings w p)) (λ i. has_good_size i.content ≡ true)
    (λ i fit. fit.1) (holdings w p).items k.fit)

-- The store keeps the package that its head tells.
use Rattle.std.proofs.Common.{◌≡◌, IsTrue, ℕ, List, refl, sym, subst, [], ◌∷◌, ◌++◌, ap, ◌∙◌}
use Rattle.std.proofs.lemmas.List.Elements.{recursion_from_All, All-from_recursion}
use Rattle.sqlite.specs.Store.{Ghosts}
use Rattle.sqlite.specs.Held.{Held, state}
use Rattle.sqlite.specs.State.{HasCleanDisk}
use Rattle.store_sql.specs.Transactions.{Rests}
use Rattle.sheet_types.specs.World.{new_world}
use Rattle.sheet_types.specs.declared.frame.Frame.{Frame}
use Rattle.identity_register.specs.Creation.{IsMadeAt}
use Rattle.world_members.specs.Members.{AllRest, AllClean, AllOpen, AllMadeAt, AreMembers}
use Rattle.world_members.specs.declared.members.Member.{Member}
use Rattle.world.proofs.Beginning.{first_member, alone}
use Rattle.world.proofs.creating.archive_alone.Goals as goal

-- the archive's own member is the only one
one_member : {S : Type 0} (g : Ghosts S) (archive : List ℕ) (conn : Held S) (none all : List (Member S))
    → none ≡ []
    → all ≡ none ++ first_member g archive conn ∷ [] → all ≡ first_member g archive conn ∷ []
one_member g archive conn none all empty is = is ∙ ap (λ ms. ms ++ first_member g archive conn ∷ []) empty

-- so its disk is clean where all are
its_disk : {S : Type 0} (g : Ghosts S) (archive : List ℕ) (conn : Held S) (all : List (Member S))
    → all ≡ first_member g archive conn ∷ [] → AllClean g all → HasCleanDisk (state g conn)
its_disk {S} g archive conn all one clean = (recursion_from_All (λ (m : Member S). HasCleanDisk (state g m.conn))
    (first_member g archive conn ∷ []) (subst (AllClean g) one clean)).0

-- and its store rests, so all do
its_rest : {S : Type 0} (g : Ghosts S) (archive : List ℕ) (conn : Held S) (all : List (Member S))
    → all ≡ first_member g archive conn ∷ [] → Rests (state g conn) → AllRest g all
its_rest {S} g archive conn all one rests = subst (AllRest g) (sym one)
    (All-from_recursion (λ (m : Member S). Rests (state g m.conn)) (first_member g archive conn ∷ []) (rests, tt))

-- and it says when it was made
it_says : {S : Type 0} (g : Ghosts S) (archive : List ℕ) (f : Frame) (at : List ℕ) (conn : Held S)
    (all : List (Member S)) → all ≡ first_member g archive conn ∷ [] → IsMadeAt f at (state g conn)
    → AllMadeAt g f at all
it_says {S} g archive f at conn all one says = subst (AllMadeAt g f at) (sym one)
    (All-from_recursion (λ (m : Member S). IsMadeAt f at (state g m.conn)) (first_member g archive conn ∷ [])
    (says, tt))

-- and it is open
its_open : {S : Type 0} (g : Ghosts S) (archive : List ℕ) (conn : Held S) (all : List (Member S))
    → all ≡ first_member g archive conn ∷ [] → IsTrue (state g conn).is_open → AllOpen g all
its_open {S} g archive conn all one opened = subst (AllOpen g) (sym one)
    (All-from_recursion (λ (m : Member S). IsTrue (state g m.conn).is_open) (first_member g archive conn ∷ [])
    (opened, tt))

pub returns-clause-clean : goal.returns-clause-clean
returns-clause-clean g c = λ clean.
    let one = one_member g.S.Store c.args.archive c.in_ok-conn.conn c.in_ok-members.members.items
    c.push_reserved.new.items.items c.in_ok-members.ensures.items c.push_reserved.ensures.items in
    c.in_ok-conn.ensures.clean (its_disk g.S.Store c.args.archive c.in_ok-conn.conn c.push_reserved.new.items.items
    one clean)

pub returns-clause-made : goal.returns-clause-made
returns-clause-made g c = λ clean.
    let one = one_member g.S.Store c.args.archive c.in_ok-conn.conn c.in_ok-members.members.items
    c.push_reserved.new.items.items c.in_ok-members.ensures.items c.push_reserved.ensures.items in
    let disk = its_disk g.S.Store c.args.archive c.in_ok-conn.conn c.push_reserved.new.items.items one clean in
    subst (λ ms. AreMembers g.S.Store ms 0 (new_world c.args.archive c.args.frame.now)) (sym one)
    (alone g.S.Store c.args.archive c.args.frame.now c.in_ok-conn.conn c.fits.ensures c.requires.good
    (c.in_ok-conn.ensures.made c.requires.moment c.requires.blank disk))

pub returns-clause-dated : goal.returns-clause-dated
returns-clause-dated g c = λ clean.
    let one = one_member g.S.Store c.args.archive c.in_ok-conn.conn c.in_ok-members.members.items
    c.push_reserved.new.items.items c.in_ok-members.ensures.items c.push_reserved.ensures.items in
    let disk = its_disk g.S.Store c.args.archive c.in_ok-conn.conn c.push_reserved.new.items.items one clean in
    it_says g.S.Store c.args.archive c.args.frame.now c.args.at.now c.in_ok-conn.conn c.push_reserved.new.items.items
    one (c.in_ok-conn.ensures.dated c.requires.blank disk)

pub create-requires-clause-rests : goal.create-requires-clause-rests
create-requires-clause-rests g c = c.if-not-is_at_rest.ensures.yes refl

pub returns-clause-rests : goal.returns-clause-rests
returns-clause-rests g c =
    let one = one_member g.S.Store c.args.archive c.in_ok-conn.conn c.in_ok-members.members.items
    c.push_reserved.new.items.items c.in_ok-members.ensures.items c.push_reserved.ensures.items in
    its_rest g.S.Store c.args.archive c.in_ok-conn.conn c.push_reserved.new.items.items one c.in_ok-conn.ensures.rests

pub returns-clause-opens : goal.returns-clause-opens
returns-clause-opens g c = λ clean.
    let one = one_member g.S.Store c.args.archive c.in_ok-conn.conn c.in_ok-members.members.items
    c.push_reserved.new.items.items c.in_ok-members.ensures.items c.push_reserved.ensures.items in
    let disk = its_disk g.S.Store c.args.archive c.in_ok-conn.conn c.push_reserved.new.items.items one clean in
    its_open g.S.Store c.args.archive c.in_ok-conn.conn c.push_reserved.new.items.items one
    (c.in_ok-conn.ensures.made c.requires.moment c.requires.blank disk).holds.is_open

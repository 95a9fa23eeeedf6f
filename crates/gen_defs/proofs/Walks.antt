-- Where a chain stands: each block of it was made before, and its heights and times.
use Rattle.std.proofs.Common.{◌≡◌, ℕ, zero, suc, ◌+◌, ◌*◌, ◌≤◌, Bool, true, false, refl, sym, ap, ◌∙◌, arith}
use Rattle.std.specs.Prelude.{not, ◌&&◌, ◌==◌, ◌%◌, nat_le, if◌then◌else◌}
use Rattle.std.proofs.lemmas.Bool.{and_parts, leb-true}
use Rattle.chain_defs.specs.Schema.{Block}
use Rattle.gen_defs.specs.Start.{genesis}
use Rattle.gen_defs.specs.Chain.{Standing, block_after, child, forks, parent_of, is_beside, with_made, grown, standing_after, block_made}
use Rattle.gen_defs.specs.Laws.{ParentsAreEarlier, TimesFollowHeights}

-- ---- A child

pub child_number : (parent : Block) (i : ℕ) → (child parent i).header.number ≡ parent.header.number + 1
unfolding block_after
child_number parent i = refl

child_time : (parent : Block) (i : ℕ) → (child parent i).header.timestamp ≡ parent.header.timestamp + 1000
unfolding block_after
child_time parent i = refl

-- its time follows from its height
abbrev pub IsTimed : Block → Type 0
IsTimed b = b.header.timestamp ≡ 1000 + 1000 * b.header.number

child_timed : (parent : Block) (i : ℕ) → IsTimed parent → IsTimed (child parent i)
child_timed parent i timed = omega (arith, timed, child_time parent i, child_number parent i)

-- ---- What holds wherever a chain stands

-- a block is among the genesis and the first i
abbrev WasMade : ℕ → ℕ → Block → Type 0
WasMade seed i b = (earlier : ℕ) × (earlier ≤ i) × (b ≡ block_made seed earlier)

pub record Holds (seed i : ℕ) (s : Standing) : Type 0 where
  pub tip_bound : s.tip.header.number ≤ i
  pub tip_after : 1 ≤ i → s.tip.header.number ≡ s.before_tip.header.number + 1
  pub before_bound : s.before_tip.header.number ≤ s.tip.header.number
  pub last_bound : s.last.header.number ≤ s.tip.header.number
  pub beside : s.is_sibling ≡ true → s.last.header.number ≡ s.tip.header.number
  pub tip_time : IsTimed s.tip
  pub before_time : IsTimed s.before_tip
  pub last_time : IsTimed s.last
  pub tip_made : WasMade seed i s.tip
  pub before_made : WasMade seed i s.before_tip

-- the parent by whether the last block is a sibling and whether the chain forks
abbrev parent_by : Bool → Bool → Standing → Block
parent_by sibling fork s = if sibling then s.last else if fork then s.before_tip else s.tip

abbrev grown_by : Bool → Bool → ℕ → Standing → Standing
grown_by sibling fork i s = with_made s (parent_by sibling fork s) (child (parent_by sibling fork s) i) (not sibling && fork)

fork_after : (seed i : ℕ) → forks seed i ≡ true → 2 ≤ i
fork_after seed i fork = leb-true 2 i (and_parts (nat_le 2 i) ((seed + 3 * i) % 7 == 0) fork).0

later : (seed i : ℕ) (b : Block) → WasMade seed i b → WasMade seed (suc i) b
later seed i b made = (made.0, omega (arith, made.1), made.2)

step : (seed i : ℕ) (s : Standing) → s.last ≡ block_made seed i → Holds seed i s → (sibling fork : Bool) → s.is_sibling ≡ sibling → forks seed (suc i) ≡ fork
    → child (parent_by sibling fork s) (suc i) ≡ block_made seed (suc i) → Holds seed (suc i) (grown_by sibling fork (suc i) s)
step seed i s last holds true fork sibling_is fork_is now =
    let number = child_number s.last (suc i) in
    let same = holds.beside sibling_is in
    record {
      tip_bound = omega (arith, number, same, holds.tip_bound);
      tip_after = λ _. number;
      before_bound = omega (arith, number);
      last_bound = omega arith;
      beside = λ is. absurd (cc);
      tip_time = child_timed s.last (suc i) holds.last_time;
      before_time = holds.last_time;
      last_time = child_timed s.last (suc i) holds.last_time;
      tip_made = (suc i, omega arith, now);
      before_made = (i, omega arith, last);
    }
step seed i s last holds false true sibling_is fork_is now =
    let number = child_number s.before_tip (suc i) in
    let after = holds.tip_after (omega (arith, fork_after seed (suc i) fork_is)) in
    record {
      tip_bound = omega (arith, holds.tip_bound);
      tip_after = λ _. after;
      before_bound = holds.before_bound;
      last_bound = omega (arith, number, after);
      beside = λ _. omega (arith, number, after);
      tip_time = holds.tip_time;
      before_time = holds.before_time;
      last_time = child_timed s.before_tip (suc i) holds.before_time;
      tip_made = later seed i s.tip holds.tip_made;
      before_made = later seed i s.before_tip holds.before_made;
    }
step seed i s last holds false false sibling_is fork_is now =
    let number = child_number s.tip (suc i) in
    record {
      tip_bound = omega (arith, number, holds.tip_bound);
      tip_after = λ _. number;
      before_bound = omega (arith, number);
      last_bound = omega arith;
      beside = λ is. absurd (cc);
      tip_time = child_timed s.tip (suc i) holds.tip_time;
      before_time = holds.tip_time;
      last_time = child_timed s.tip (suc i) holds.tip_time;
      tip_made = (suc i, omega arith, now);
      before_made = later seed i s.tip holds.tip_made;
    }

last_by : (sibling fork : Bool) (i : ℕ) (s : Standing) → (grown_by sibling fork i s).last ≡ child (parent_by sibling fork s) i
last_by true fork i s = refl
last_by false true i s = refl
last_by false false i s = refl

-- each block is its parent's child
pub made_is : (seed i : ℕ) → block_made seed (suc i) ≡ child (parent_of seed (suc i) (standing_after seed i)) (suc i)
unfolding standing_after
made_is seed i = last_by (standing_after seed i).is_sibling (forks seed (suc i)) (suc i) (standing_after seed i)

pub grown_is : (seed i : ℕ) → standing_after seed (suc i) ≡ grown seed (suc i) (standing_after seed i)
unfolding standing_after
grown_is seed i = refl

genesis_timed : IsTimed genesis
unfolding genesis
genesis_timed = refl

genesis_number : genesis.header.number ≡ 0
unfolding genesis
genesis_number = refl

pub holds_after : (seed i : ℕ) → Holds seed i (standing_after seed i)
unfolding standing_after
holds_after seed zero = record {
  tip_bound = omega (arith, genesis_number);
  tip_after = λ above. absurd (omega arith);
  before_bound = omega arith;
  last_bound = omega arith;
  beside = λ is. absurd (cc);
  tip_time = genesis_timed;
  before_time = genesis_timed;
  last_time = genesis_timed;
  tip_made = (0, omega arith, refl);
  before_made = (0, omega arith, refl);
}
holds_after seed (suc i) =
    step seed i (standing_after seed i) refl (holds_after seed i) (standing_after seed i).is_sibling (forks seed (suc i)) refl refl (sym (made_is seed i))

-- ---- The parent of the next block

-- what block i after the first ones is made on: what its parent is, and how far the tip is with it
pub record Parent (seed before i : ℕ) (s : Standing) : Type 0 where
  pub bound : (parent_of seed i s).header.number ≤ s.tip.header.number
  pub timed : IsTimed (parent_of seed i s)
  -- a block that becomes the tip is one height above the tip
  pub at_tip : is_beside seed i s ≡ false → (parent_of seed i s).header.number ≡ s.tip.header.number
  pub tip_moves : is_beside seed i s ≡ false → (grown seed i s).tip.header.number ≡ s.tip.header.number + 1
  pub tip_stays : is_beside seed i s ≡ true → (grown seed i s).tip.header.number ≡ s.tip.header.number
  pub made : WasMade seed before (parent_of seed i s)

record ParentBy (seed before i : ℕ) (s : Standing) (sibling fork : Bool) : Type 0 where
  bound : (parent_by sibling fork s).header.number ≤ s.tip.header.number
  timed : IsTimed (parent_by sibling fork s)
  at_tip : (not sibling && fork) ≡ false → (parent_by sibling fork s).header.number ≡ s.tip.header.number
  tip_moves : (not sibling && fork) ≡ false → (grown_by sibling fork i s).tip.header.number ≡ s.tip.header.number + 1
  tip_stays : (not sibling && fork) ≡ true → (grown_by sibling fork i s).tip.header.number ≡ s.tip.header.number
  made : WasMade seed before (parent_by sibling fork s)

parent_is_by : (seed before i : ℕ) (s : Standing) → s.last ≡ block_made seed before → Holds seed before s → (sibling fork : Bool) → s.is_sibling ≡ sibling
    → ParentBy seed before i s sibling fork
parent_is_by seed before i s last holds true fork is = record {
  bound = holds.last_bound;
  timed = holds.last_time;
  at_tip = λ _. holds.beside is;
  tip_moves = λ _. omega (arith, child_number s.last i, holds.beside is);
  tip_stays = λ is. absurd (cc);
  made = (before, omega arith, last);
}
parent_is_by seed before i s last holds false true is = record {
  bound = holds.before_bound;
  timed = holds.before_time;
  at_tip = λ is. absurd (cc);
  tip_moves = λ is. absurd (cc);
  tip_stays = λ _. refl;
  made = holds.before_made;
}
parent_is_by seed before i s last holds false false is = record {
  bound = omega arith;
  timed = holds.tip_time;
  at_tip = λ _. refl;
  tip_moves = λ _. child_number s.tip i;
  tip_stays = λ is. absurd (cc);
  made = holds.tip_made;
}

pub parent_holds : (seed before i : ℕ) → Parent seed before i (standing_after seed before)
parent_holds seed before i =
    let s : Standing = standing_after seed before in
    let by = parent_is_by seed before i s refl (holds_after seed before) s.is_sibling (forks seed i) refl in
    record { bound = by.bound; timed = by.timed; at_tip = by.at_tip; tip_moves = by.tip_moves; tip_stays = by.tip_stays; made = by.made }

-- ---- The laws

pub parents-are-earlier : ParentsAreEarlier
parents-are-earlier seed i =
    let made = (parent_holds seed i (suc i)).made in
    (made.0, made.1, made_is seed i ∙ ap (λ (b : Block). child b (suc i)) made.2)

pub times-follow-heights : TimesFollowHeights
times-follow-heights seed i =
    let holds = holds_after seed i in
    (omega (arith, holds.last_bound, holds.tip_bound), holds.last_time)

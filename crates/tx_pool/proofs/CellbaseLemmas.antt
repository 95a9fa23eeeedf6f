-- What the cellbase pays, by the kept blocks that it stands on.
use Rattle.std.proofs.Common.{◌≡◌, ℕ, ◌+◌, ◌-◌, ◌^◌, ◌<◌, ◌≤◌, Bool, cond, List, [], length, Option, Some, None, Result, Ok, Err, refl, sym, ap, ◌∙◌, subst, pos}
use Rattle.std.specs.Prelude.{nat_le, slice_get, option_map, IfSome, IfErr}
use Rattle.std.proofs.lemmas.Bool.{le-ltb, lt-leb, le-leb}
use Rattle.std.proofs.lemmas.Option.{slice_get-map}
use Rattle.outside.specs.declared.disk.Damage.{Damage}
use Rattle.outside.specs.declared.disk.ReadStop.{ReadStop}
use Rattle.outside.specs.declared.disk.ReadStop.TheVariants.{NoMemory, Damaged}
use Rattle.chain_defs.specs.Schema.{Script, CellOutput, Block, CellbaseWitness}
use Rattle.chain_defs.specs.Specification.{Specification}
use Rattle.chain_defs.specs.Dao.{as_u64}
use Rattle.chain_defs.specs.Kept.{block_at}
use Rattle.chain_defs.proofs.KeptLaws.{slice_get-below}
use Rattle.chain_tree.specs.Told.{Stored, blocks_of}
use Rattle.chain_tree.specs.Reading.{Findings, HasRead, stop_of}
use Rattle.chain_tree.proofs.ReadLemmas.{no_memory_fault, no_memory_damage, read_till, read_so}
use Rattle.rewards.proofs.BranchLemmas.{held}
use Rattle.rule_defs.specs.Reward.{part}
use Rattle.rule_defs.specs.Payment.{NoOutput, Pays, Unpayable, occupied_with, owed_to, lock_of, owed_after}
use Rattle.tx_rules.proofs.MoneyLemmas.{some-u64, none-u64}
use Rattle.pool_defs.specs.Start.{owed_outputs, cellbase_with, cellbase}

-- ---- The block that is paid

pub told-length : (stored : List Stored) (told : Option (List Stored)) (count : ℕ) → told ≡ Some stored → IfSome told (λ all. length all ≡ count) → length stored ≡ count
told-length stored told count tells all = subst (λ (o : Option (List Stored)). IfSome o (λ them. length them ≡ count)) tells all

pub block-brought : (stored : List Stored) (place : ℕ) (b : Block) (told : Option (List Stored)) (hand : Option ℕ) → told ≡ Some stored → hand ≡ Some place
    → place < length stored → IfSome told (λ all. IfSome hand (λ e. IfSome (slice_get all e) (λ it. b ≡ it.block))) → block_at (blocks_of stored) place ≡ Some b
block-brought stored place b told hand tells in_hand within is =
    let it = slice_get-below stored place within in
    let same : b ≡ it.0.block = held (λ (s : Stored). b ≡ s.block) stored place it.0 told hand tells in_hand it.1 is in
    slice_get-map (λ (s : Stored). s.block) stored place ∙ ap (option_map (λ (s : Stored). s.block)) it.1 ∙ ap Some (sym same)

-- ---- Want of memory

module _ {S L : Type 0} {tells : S → Option (List Stored)} {counts : S → ℕ} {loans_of : S → L} {faults : S → ℕ} {damages : S → Findings} where
  pub read-then-alone : {T : Type 0} {old new : S} (result : Result T ReadStop) → IfErr result (λ stop. stop ≡ NoMemory)
      → HasRead tells counts loans_of faults damages old new None → HasRead tells counts loans_of faults damages old new (stop_of result)
  read-then-alone (Ok value) only read = read
  read-then-alone (Err stop) only read =
      read_so (ap Some (sym only)) (read_till (Some NoMemory) (λ damage is. absurd (no_memory_damage damage is)) no_memory_fault read)

pub alone-undamaged : {T : Type 0} (result : Result T ReadStop) → IfErr result (λ stop. stop ≡ NoMemory) → (damage : Damage) → result ≡ Err (Damaged damage) → ⊥
alone-undamaged (Ok value) only damage is = absurd (cc)
alone-undamaged (Err stop) only damage is =
    let other : stop ≡ Damaged damage = cc in
    no_memory_damage damage (ap Some (sym only ∙ other))

-- ---- After a branch

-- near the genesis nothing is owed
pub cellbase-early : (spec : Specification) (on : List Block) (height : ℕ) (w : CellbaseWitness) → height ≡ length on → length on ≤ spec.w_far + 1
    → cellbase_with height [] w ≡ cellbase spec on w
unfolding cellbase owed_after
cellbase-early spec on height w high early =
    ap (λ (h : ℕ). cellbase_with h [] w) high
    ∙ sym (ap (λ (test : Bool). cellbase_with (length on)
    (owed_outputs (cond test NoOutput (owed_to (lock_of (block_at on (length on - (spec.w_far + 1)))) (part spec on (length on - (spec.w_far + 1)))))) w)
    (le-leb (length on) (spec.w_far + 1) early))

-- later the reward of an earlier block
cellbase-late : (spec : Specification) (on : List Block) (target : ℕ) (w : CellbaseWitness) → spec.w_far + 1 < length on → target ≡ length on - (spec.w_far + 1)
    → cellbase_with (length on) (owed_outputs (owed_to (lock_of (block_at on target)) (part spec on target))) w ≡ cellbase spec on w
unfolding cellbase owed_after
cellbase-late spec on target w late at =
    ap (λ (n : ℕ). cellbase_with (length on) (owed_outputs (owed_to (lock_of (block_at on n)) (part spec on n))) w) at
    ∙ sym (ap (λ (test : Bool). cellbase_with (length on)
    (owed_outputs (cond test NoOutput (owed_to (lock_of (block_at on (length on - (spec.w_far + 1)))) (part spec on (length on - (spec.w_far + 1)))))) w)
    (lt-leb (length on) (spec.w_far + 1) late))

-- a reward that is found
pub cellbase-found : (spec : Specification) (on : List Block) (height target reward : ℕ) (paid : Option Block) (w : CellbaseWitness) → height ≡ length on
    → spec.w_far + 1 < length on → target ≡ length on - (spec.w_far + 1) → Some reward ≡ as_u64 (pos (part spec on target)) → block_at on target ≡ paid
    → cellbase_with height (owed_outputs (owed_to (lock_of paid) reward)) w ≡ cellbase spec on w
cellbase-found spec on height target reward paid w high late at found here =
    ap (λ (h : ℕ). cellbase_with h (owed_outputs (owed_to (lock_of paid) reward)) w) high
    ∙ ap (λ (n : ℕ). cellbase_with (length on) (owed_outputs (owed_to (lock_of paid) n)) w) (some-u64 (part spec on target) (2 ^ 64) reward found).0
    ∙ ap (λ (it : Option Block). cellbase_with (length on) (owed_outputs (owed_to (lock_of it) (part spec on target))) w) (sym here)
    ∙ cellbase-late spec on target w late at

-- one above the greatest u64
pub cellbase-none : (spec : Specification) (on : List Block) (height target : ℕ) (w : CellbaseWitness) → height ≡ length on → spec.w_far + 1 < length on
    → target ≡ length on - (spec.w_far + 1) → None ≡ as_u64 (pos (part spec on target)) → cellbase_with height [] w ≡ cellbase spec on w
cellbase-none spec on height target w high late at none =
    ap (λ (h : ℕ). cellbase_with h [] w) high
    ∙ ap (λ (outputs : List CellOutput). cellbase_with (length on) outputs w) (by_lock (lock_of (block_at on target)))
    ∙ cellbase-late spec on target w late at
  where
    by_lock : (lock : Option Script) → [] ≡ owed_outputs (owed_to lock (part spec on target))
    by_lock None = refl
    by_lock (Some lock) =
        sym (ap (λ (test : Bool). owed_outputs (cond test (cond (nat_le (occupied_with lock) (part spec on target)) (Pays lock (part spec on target)) NoOutput) Unpayable))
        (le-ltb (part spec on target) (2 ^ 64) (none-u64 (part spec on target) (2 ^ 64) none)))

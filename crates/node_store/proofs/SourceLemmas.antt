-- What a source of blocks over a disk tells of what is kept, and what a look through it leaves of the disk and of what is held in memory.
use Rattle.std.proofs.Common.{◌≡◌, ℕ, List, length, Option, Some, None, sym, ap, ◌∙◌, subst, arith}
use Rattle.std.specs.Prelude.{IfSome, IsSome}
use Rattle.outside.specs.Causes.{CountsFault}
use Rattle.outside.specs.Image.{Image}
use Rattle.outside.specs.declared.disk.Area.TheVariants.{Log}
use Rattle.outside.specs.declared.disk.Damage.{Damage}
use Rattle.outside.specs.declared.disk.ReadStop.{ReadStop}
use Rattle.outside.specs.declared.disk.ReadStop.TheVariants.{DiskFault, Damaged}
use Rattle.chain_defs.specs.Schema.{Block}
use Rattle.chain_tree.specs.declared.entry.Entry.{Entry}
use Rattle.chain_tree.specs.Told.{Stored}
use Rattle.chain_tree.specs.Reading.{Finds}
use Rattle.chain_tree.specs.Blocks.{IndexesBlocks}
use Rattle.chain_tree.proofs.BlockLemmas.{len-same}
use Rattle.store_defs.specs.Store.{AreJoined}
use Rattle.node_store.specs.Stored.{known_by}
use Rattle.node_store.specs.Held.{CacheValue, IsKept}
use Rattle.node_store.proofs.LogLemmas.{log_has_blocks}
use Rattle.node_store.proofs.AgreeLemmas.{agrees_always}
use Rattle.node_store.specs.Kept.{KeptValue, stored_of, HoldsJoined}
use Rattle.node_store.specs.Node.{LogHoldsKept, HasOnlyRead}

-- ---- Over a disk

module _ (kept : KeptValue) (image : Image) (held : List (ℕ × Stored)) (read : LogHoldsKept kept held image) where
  told_at : known_by (Some image) kept.entries ≡ Some (stored_of kept)
  told_at = log_has_blocks image read.specification read.records (stored_of kept) kept.entries read.names read.keeps read.can

  -- what is held in memory is what LOG has
  kept_at : IsKept kept.entries held image
  kept_at = (agrees_always image kept.entries (stored_of kept) held told_at).1 read.agrees

  -- and other things held, where they are
  read_at : (later : List (ℕ × Stored)) → IsKept kept.entries later image → LogHoldsKept kept later image
  read_at later is_kept = record {
    specification = read.specification;
    records = read.records;
    keeps = read.keeps;
    edition = read.edition;
    names = read.names;
    can = read.can;
    agrees = (agrees_always image kept.entries (stored_of kept) later told_at).0 is_kept;
  }

pub kept-on : (kept : KeptValue) (entries : List Entry) (held : List (ℕ × Stored)) (reads : Option Image) → entries ≡ kept.entries
    → IfSome reads (LogHoldsKept kept held) → IfSome reads (IsKept entries held)
kept-on kept entries held None same own = tt
kept-on kept entries held (Some image) same own = subst (λ (es : List Entry). IsKept es held image) (sym same) (kept_at kept image held own)

read-later : (kept : KeptValue) (held later : List (ℕ × Stored)) (reads : Option Image) → IfSome reads (LogHoldsKept kept held)
    → IfSome reads (IsKept kept.entries later) → IfSome reads (LogHoldsKept kept later)
read-later kept held later None own is_kept = tt
read-later kept held later (Some image) own is_kept = read_at kept image held own later is_kept

tells-all : (kept : KeptValue) (held : List (ℕ × Stored)) (reads : Option Image) → IfSome reads (LogHoldsKept kept held) → IsSome reads
    → known_by reads kept.entries ≡ Some (stored_of kept)
tells-all kept held None own told = absurd (cc)
tells-all kept held (Some image) own told = told_at kept image held own

-- a store over a disk that reads as it did tells what is kept
pub tells-kept : (kept : KeptValue) (entries : List Entry) (held : List (ℕ × Stored)) (reads before : Option Image) → entries ≡ kept.entries → reads ≡ before
    → IfSome before (LogHoldsKept kept held) → IsSome before → known_by reads entries ≡ Some (stored_of kept)
tells-kept kept entries held reads before same rests own told =
    ap (λ (o : Option Image). known_by o entries) rests ∙ ap (known_by before) same ∙ tells-all kept held before own told

pub tells-joined : (kept : KeptValue) (entries : List Entry) (held : List (ℕ × Stored)) (reads before : Option Image) → entries ≡ kept.entries → reads ≡ before
    → IfSome before (LogHoldsKept kept held) → IsSome before → AreJoined kept.chain kept.exts → HoldsJoined kept (known_by reads entries)
tells-joined kept entries held reads before same rests own told joined =
    record { all = tells-kept kept entries held reads before same rests own told; joined = joined }

-- it has as many entries as there are blocks
pub counts-blocks : (kept blocks : List Block) (entries others : List Entry) → kept ≡ blocks → IndexesBlocks kept entries → others ≡ entries
    → length others ≡ length blocks
counts-blocks kept blocks entries others seen indexed same = omega (arith, ap length same, ap length seen, len-same kept entries indexed)

-- What a look leaves, where the content is the same and what is held then is what LOG has.
pub has-looked : {S C : Type 0} {content_of : S → C} {reads_as : S → Option Image} {faults : S → ℕ} {old new : S} {stop : Option ReadStop}
    (kept : KeptValue) (entries : List Entry) (cache later : CacheValue) → entries ≡ kept.entries → content_of new ≡ content_of old
    → reads_as new ≡ reads_as old → IfSome (reads_as old) (LogHoldsKept kept cache.held) → IfSome (reads_as new) (IsKept entries later.held) → later.most ≡ cache.most
    → ((damage : Damage) → stop ≡ Some (Damaged damage) → damage.area ≡ Log) → CountsFault (faults old) (faults new) (stop ≡ Some DiskFault)
    → Finds cache.damages later.damages stop
    → HasOnlyRead content_of reads_as faults old new kept cache later stop
has-looked {reads_as = reads_as} {new = new} kept entries cache later same content reads own is_kept most damage cause found = record {
  content = content;
  agrees = read-later kept cache.held later.held (reads_as new) (subst (λ (o : Option Image). IfSome o (LogHoldsKept kept cache.held)) (sym reads) own)
      (subst (λ (es : List Entry). IfSome (reads_as new) (IsKept es later.held)) same is_kept);
  most = most;
  damage = damage;
  cause = cause;
  found = found;
}

-- What is wrong first of LOG, and what of an image.
use Rattle.std.proofs.Common.{◌≡◌, ℕ, zero, suc, ◌+◌, Bool, true, false, cond, List, [], ◌∷◌, length, Option, Some, None, refl, sym, ap, ◌∙◌, subst, arith}
use Rattle.std.specs.Prelude.{not, slice_get}
use Rattle.outside.specs.declared.disk.Area.TheVariants.{Log}
use Rattle.verdict_defs.specs.Chain.{Chain}
use Rattle.disk_defs.specs.Log.{Record, LogContent, record_bytes, is_of_edition, of_blocks, log_of, stop_of_log}
use Rattle.store_defs.specs.Store.{chain_of, chain_before, EachHasJoined}
use Rattle.store_defs.specs.SnapshotLaws.{HasSoundAreas}
use Rattle.store_defs.proofs.JoinedLemmas.{content_of_log}
use Rattle.verify_defs.specs.declared.fault.Cause.{Cause}
use Rattle.verify_defs.specs.declared.fault.Fault.{Fault}
use Rattle.verify_defs.specs.Fault.{cause_of_record, fault_in, fault_of_later, later_place, fault_of_content, fault_of_log}
use Rattle.verify_defs.specs.Laws.{NoneOfASoundLog, SoundByParts}
use Rattle.verify_defs.proofs.Causes.{none_of_joined, joined_of_none}

-- ---- The records after the genesis

module _ (log : LogContent) where
  abbrev pub found_first : ℕ → ℕ → Option Cause → Option Fault → Option Fault
  found_first place count o later = elim o [
    | None ↦ later
    | Some cause ↦ Some (fault_in Log (place + 6) cause)
  ]

  -- where nothing is wrong, nothing is of each record of a block
  pub each_of_none : (count place : ℕ) (records : List Record) → fault_of_later log count place records ≡ None → (i : ℕ) (r : Record)
      → slice_get (of_blocks records) i ≡ Some r → cause_of_record (chain_before log (count + i)) r ≡ None
  each_of_none count place [] none i r there = absurd (cc)
  each_of_none count place (first ∷ records) none i r there =
      by_edition (each_of_none count (place + length (record_bytes first)) records) (each_of_none (suc count) (place + length (record_bytes first)) records)
      (is_of_edition first) none there
    where
      next : ℕ
      next = place + length (record_bytes first)

      rest : List Record
      rest = of_blocks records

      Each : ℕ → Type 0
      Each from = fault_of_later log from next records ≡ None → (i : ℕ) (r : Record) → slice_get rest i ≡ Some r → cause_of_record (chain_before log (from + i)) r ≡ None

      by_cause : Each (suc count) → (o : Option Cause) → cause_of_record (chain_before log count) first ≡ o → found_first place count o (fault_of_later log (suc count) next records) ≡ None
          → (i : ℕ) → slice_get (first ∷ rest) i ≡ Some r → cause_of_record (chain_before log (count + i)) r ≡ None
      by_cause later (Some cause) is none i there = absurd (cc)
      by_cause later None is none zero there =
          let same : first ≡ r = (cc) in
          ap (λ (n : ℕ). cause_of_record (chain_before log n) r) (omega arith) ∙ ap (cause_of_record (chain_before log count)) (sym same) ∙ is
      by_cause later None is none (suc i) there =
          ap (λ (n : ℕ). cause_of_record (chain_before log n) r) (omega arith) ∙ later none i r there

      by_edition : Each count → Each (suc count) → (t : Bool)
          → cond t (fault_of_later log count next records) (found_first place count (cause_of_record (chain_before log count) first) (fault_of_later log (suc count) next records)) ≡ None
          → slice_get (cond (not t) (first ∷ rest) rest) i ≡ Some r → cause_of_record (chain_before log (count + i)) r ≡ None
      by_edition same later true none there = same none i r there
      by_edition same later false none there = by_cause later (cause_of_record (chain_before log count) first) refl none i there

  -- and back
  pub none_of_each : (count place : ℕ) (records : List Record)
      → ((i : ℕ) (r : Record) → slice_get (of_blocks records) i ≡ Some r → cause_of_record (chain_before log (count + i)) r ≡ None)
      → fault_of_later log count place records ≡ None
  none_of_each count place [] each = refl
  none_of_each count place (first ∷ records) each =
      by_edition (none_of_each count (place + length (record_bytes first)) records) (none_of_each (suc count) (place + length (record_bytes first)) records)
      (is_of_edition first) refl each
    where
      next : ℕ
      next = place + length (record_bytes first)

      rest : List Record
      rest = of_blocks records

      None_of : ℕ → Type 0
      None_of from = ((i : ℕ) (r : Record) → slice_get rest i ≡ Some r → cause_of_record (chain_before log (from + i)) r ≡ None)
          → fault_of_later log from next records ≡ None

      by_edition : None_of count → None_of (suc count) → (t : Bool) → is_of_edition first ≡ t
          → ((i : ℕ) (r : Record) → slice_get (cond (not t) (first ∷ rest) rest) i ≡ Some r → cause_of_record (chain_before log (count + i)) r ≡ None)
          → cond t (fault_of_later log count next records) (found_first place count (cause_of_record (chain_before log count) first) (fault_of_later log (suc count) next records)) ≡ None
      by_edition same later true is each = same each
      by_edition same later false is each =
          let here : cause_of_record (chain_before log count) first ≡ None =
          ap (λ (n : ℕ). cause_of_record (chain_before log n) first) (omega arith) ∙ each 0 first refl in
          ap (λ (o : Option Cause). found_first place count o (fault_of_later log (suc count) next records)) here
          ∙ later (λ i r there. ap (λ (n : ℕ). cause_of_record (chain_before log n) r) (omega arith) ∙ each (suc i) r there)

-- ---- LOG

-- what is wrong of a log
pub fault_of_a_log : (bytes : List ℕ) (log : LogContent) → log_of bytes ≡ Some log → fault_of_log bytes ≡ fault_of_later log 1 (later_place log) log.records
unfolding fault_of_log
fault_of_a_log bytes log is = ap (fault_of_content (stop_of_log bytes)) is

pub joined_log : (bytes : List ℕ) (log : LogContent) → log_of bytes ≡ Some log → fault_of_log bytes ≡ None → EachHasJoined log
joined_log bytes log is none place r there =
    let at : cause_of_record (chain_before log (place + 1)) r ≡ None =
    ap (λ (n : ℕ). cause_of_record (chain_before log n) r) (omega arith)
    ∙ each_of_none log 1 (later_place log) log.records (sym (fault_of_a_log bytes log is) ∙ none) place r there in
    joined_of_none bytes log (content_of_log bytes log is) place r there at

pub none_of_log : (bytes : List ℕ) (log : LogContent) → log_of bytes ≡ Some log → EachHasJoined log → fault_of_log bytes ≡ None
none_of_log bytes log is each =
    fault_of_a_log bytes log is
    ∙ none_of_each log 1 (later_place log) log.records (λ i r there.
    ap (λ (n : ℕ). cause_of_record (chain_before log n) r) (omega arith)
    ∙ none_of_joined (chain_before log (i + 1)) (chain_before log (i + 2)) r (each i r there))

log_there : (bytes : List ℕ) → fault_of_log bytes ≡ None → (log : LogContent) × (log_of bytes ≡ Some log)
unfolding fault_of_log
log_there bytes none = by_log (log_of bytes) refl none
  where
    by_log : (o : Option LogContent) → log_of bytes ≡ o → fault_of_content (stop_of_log bytes) o ≡ None → (log : LogContent) × (log_of bytes ≡ Some log)
    by_log None is none = absurd (cc)
    by_log (Some log) is none = (log, is)

pub none_of_a_sound_log : NoneOfASoundLog
none_of_a_sound_log bytes = (
  λ none. let found = log_there bytes none in (found.0, found.1, joined_log bytes found.0 found.1 none),
  λ found. none_of_log bytes found.0 found.1 found.2,
)

-- ---- An image

pub sound_by_parts : SoundByParts
sound_by_parts image = (
  λ sound.
      let stands = sound.1 in
      let same : stands.log.blocks ≡ sound.0.blocks = ap (λ (c : Chain). c.blocks) stands.keeps in (
        stands.log,
        stands.is_log,
        none_of_log image.log stands.log stands.is_log stands.joined,
        subst (λ blocks. HasSoundAreas blocks image) (sym same) (record { snap_a = stands.snap_a; snap_b = stands.snap_b }),
      ),
  λ parts. (
    chain_of parts.0,
    record {
      log = parts.0;
      is_log = parts.1;
      keeps = refl;
      joined = joined_log image.log parts.0 parts.1 parts.2;
      snap_a = parts.3.snap_a;
      snap_b = parts.3.snap_b;
    },
  ),
)

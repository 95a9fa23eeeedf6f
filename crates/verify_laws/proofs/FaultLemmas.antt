-- An image of which something is wrong first is not sound.
use Rattle.std.proofs.Common.{◌≡◌, ℕ, List, [], length, Option, Some, None, sym, ap, ◌∙◌, subst, inl, inr}
use Rattle.std.specs.List.{All}
use Rattle.outside.specs.declared.disk.Area.{Area}
use Rattle.outside.specs.declared.disk.Area.TheVariants.{SnapA, SnapB}
use Rattle.chain_defs.specs.Schema.{Block}
use Rattle.verdict_defs.specs.Chain.{Chain}
use Rattle.disk_defs.specs.Log.{LogContent, log_of}
use Rattle.disk_defs.specs.Snapshot.{Snapshot, area_of, HoldsSound, IsOfBlocks, IsSoundArea}
use Rattle.disk_defs.proofs.SnapshotLaws.{bytes-tell-snapshots}
use Rattle.store_defs.proofs.JoinedLemmas.{joined_of_image}
use Rattle.node_store.specs.ReorgLaws.{IsKeptRow}
use Rattle.node_store.proofs.HeldLaws.{snapshot-rows-are-kept}
use Rattle.node_store.proofs.CanonicalLaws.{stored-are-canonical}
use Rattle.verify_defs.specs.declared.fault.Cause.{Cause}
use Rattle.verify_defs.specs.declared.fault.Cause.TheVariants.{NoRecord, StaysOut, OtherExt, NoSnapshot, OtherArea, OtherRow}
use Rattle.verify_defs.specs.declared.fault.Fault.{Fault}
use Rattle.verify_defs.specs.Fault.{NamesBlocks, IsCauseIn, IsFaultOfArea}
use Rattle.verify_defs.proofs.FaultLemmas.{none_of_log}
use Rattle.verify_laws.specs.Laws.{FaultIsNotSound}

-- ---- An area

module _ (kept : List Block) (area : Area) (bytes : List ℕ) (rows : (s : Snapshot) → IsOfBlocks kept s → All (λ it. IsKeptRow (length kept) it.1) s.rows) where
  names_of : (s : Snapshot) → IsOfBlocks kept s → NamesBlocks kept s
  names_of s of = record {
    tip = of.tip;
    rows = λ place it below. record { block = (rows s of place it below).block; occupied = (rows s of place it below).occupied };
  }

  cause_not_sound : (cause : Cause) → IsCauseIn kept area bytes cause → (s : Snapshot) → HoldsSound kept area bytes s → ⊥
  cause_not_sound NoRecord is s sound = is
  cause_not_sound (StaysOut place verdict) is s sound = is
  cause_not_sound (OtherExt place part) is s sound = is
  cause_not_sound NoSnapshot is s sound = is s sound.holds (names_of s sound.of_blocks)
  cause_not_sound (OtherArea number) (other, holds, numbered, elsewhere) s sound =
      let same : s ≡ other = bytes-tell-snapshots bytes s other sound.holds holds in
      elsewhere (ap (λ (it : Snapshot). area_of it.number) (sym same) ∙ sound.here)
  cause_not_sound (OtherRow hash index) (other, holds, names, here, not_its) s sound =
      let same : s ≡ other = bytes-tell-snapshots bytes s other sound.holds holds in
      let of : IsOfBlocks kept other = subst (IsOfBlocks kept) same sound.of_blocks in
      not_its (λ row. of.rows.each (record { tx_hash = hash; index = index }) row)

  pub area_not_sound : (fault : Fault) → IsFaultOfArea kept area bytes fault → IsSoundArea kept area bytes → ⊥
  area_not_sound fault wrong sound = let held = sound wrong.gate in cause_not_sound fault.cause wrong.cause held.0 held.1

-- ---- An image

same_blocks : (bytes : List ℕ) (one other : LogContent) → log_of bytes ≡ Some one → log_of bytes ≡ Some other → one.blocks ≡ other.blocks
same_blocks bytes one other is also = ap blocks_in (sym is ∙ also)
  where
    blocks_in : Option LogContent → List Block
    blocks_in None = []
    blocks_in (Some log) = log.blocks

none_is_no_fault : (fault : Fault) → None ≡ Some fault → ⊥
none_is_no_fault fault is = absurd (cc)

pub fault_is_not_sound : FaultIsNotSound
fault_is_not_sound image fault (inl wrong) sound =
    let stands = sound.1 in
    none_is_no_fault fault (sym (none_of_log image.log stands.log stands.is_log stands.joined) ∙ wrong)
fault_is_not_sound image fault (inr (inl (blocks, has, wrong))) sound =
    let stands = sound.1 in
    let kept : stands.log.blocks ≡ sound.0.blocks = ap (λ (c : Chain). c.blocks) stands.keeps in
    let same : sound.0.blocks ≡ blocks = sym kept ∙ same_blocks image.log stands.log has.log stands.is_log has.is_log ∙ has.keeps in
    area_not_sound sound.0.blocks SnapA image.snap_a
    (λ s of. snapshot-rows-are-kept sound.0 s (joined_of_image sound.0 image stands) (stored-are-canonical sound.0 image stands) of) fault
    (subst (λ (bs : List Block). IsFaultOfArea bs SnapA image.snap_a fault) (sym same) wrong) stands.snap_a
fault_is_not_sound image fault (inr (inr (blocks, has, sound_a, wrong))) sound =
    let stands = sound.1 in
    let kept : stands.log.blocks ≡ sound.0.blocks = ap (λ (c : Chain). c.blocks) stands.keeps in
    let same : sound.0.blocks ≡ blocks = sym kept ∙ same_blocks image.log stands.log has.log stands.is_log has.is_log ∙ has.keeps in
    area_not_sound sound.0.blocks SnapB image.snap_b
    (λ s of. snapshot-rows-are-kept sound.0 s (joined_of_image sound.0 image stands) (stored-are-canonical sound.0 image stands) of) fault
    (subst (λ (bs : List Block). IsFaultOfArea bs SnapB image.snap_b fault) (sym same) wrong) stands.snap_b

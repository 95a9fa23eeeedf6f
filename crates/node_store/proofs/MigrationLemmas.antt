-- A node whose store gets an edition.
use Rattle.std.proofs.Common.{◌≡◌, ◌⊎◌, inl, inr, ℕ, ◌+◌, ◌<◌, ◌≤◌, ◌^◌, ◌*◌, Bool, true, false, leb, ltb, List, [], ◌∷◌, ◌++◌, length, drop, Option, Some, None, refl, sym, ap, ◌∙◌, subst, arith}
use Rattle.std.specs.Prelude.{IfSome, ◌&&◌, if◌then◌else◌}
use Rattle.std.specs.Option.{option_map, option_and_then}
use Rattle.std.proofs.lemmas.Bool.{le-leb, leb-true, ltb-true}
use Rattle.std.proofs.lemmas.Option.{slice_get_within}
use Rattle.std.proofs.lemmas.List.{length-append}
use Rattle.outside.specs.declared.disk.Area.TheVariants.{Log}
use Rattle.outside.specs.Image.{Image, with_content}
use Rattle.outside.specs.Disk.{OthersRead, LeavesOnly}
use Rattle.outside.proofs.Moments.{started}
use Rattle.chain_defs.specs.Schema.{Block}
use Rattle.chain_defs.specs.Epochs.{epoch_number}
use Rattle.chain_defs.specs.Kept.{block_at}
use Rattle.chain_defs.specs.Tip.{tip}
use Rattle.chain_defs.proofs.KeptLaws.{slice_get-below}
use Rattle.chain_defs.proofs.TipLaws.{tip_place-there, tip_place-below}
use Rattle.verdict_defs.specs.Chain.{Chain}
use Rattle.disk_defs.specs.Log.{Record, of_blocks, edition_of, edition_record, end_of_log, records_of}
use Rattle.disk_defs.specs.Rest.{IsAtRest, IsAppended, HasAppended, IsSettled}
use Rattle.disk_defs.proofs.Contents.{editions_are_kept, epoch_is_told, blocks_of_same}
use Rattle.cell_state.specs.State.{StateValue}
use Rattle.store_defs.specs.Store.{IsJoined, AreJoined, StandsFor}
use Rattle.store_defs.specs.EditionLaws.{AllStandBefore, TipStandsBefore, edited_chain}
use Rattle.store_defs.proofs.EditedLemmas.{the_tip_tells, stays_joined}
use Rattle.log_file.specs.Pieces.{after_gate}
use Rattle.log_file.specs.Grammar.{record_of, edition_room}
use Rattle.log_file.proofs.Gates.{piece_length}
use Rattle.disk_defs.proofs.Records.{record_length}
use Rattle.node_store.proofs.AppendLemmas.{of_told}
use Rattle.node_store.proofs.DiskLemmas.{edited_either}
use Rattle.log_file.proofs.Progress.{names-pass}
use Rattle.store_defs.specs.declared.moved.Moved.{Moved}
use Rattle.store_defs.specs.declared.moved.Moved.TheVariants.{Done, TooEarly, Already}
use Rattle.node_store.specs.Held.{CacheValue}
use Rattle.node_store.specs.Kept.{KeptValue}
use Rattle.node_store.specs.Node.{NodeValue, node_of, IsOwnDisk, IsOwnDiskWhereTold, IsSoundNode, IsSoundWhereTold, IsOnlyImage, StandsOnDisk, IsBounded}
use Rattle.store_defs.specs.Migration.{moved_at, moved_from, migration, is_done, chain_moved}
use Rattle.node_store.specs.Migration.{kept_edited, IsEdited, IsMigrated, LeavesMigration}

-- ---- Its disk

module _ (kept : KeptValue) (place end epoch : ℕ) (cells : StateValue) (cache : CacheValue) (reads reads1 : Option Image) (images images1 : Image → Type 0)
    (none : kept.chain.spec.second_from ≡ None) (fits : epoch < 2 ^ 64)
    (after : (records : List Record) → IsSettled place records reads images → IsSettled end (records ++ edition_record epoch ∷ []) reads1 images1) where
  of_edited : IsOwnDisk (node_of kept place cells cache) reads images → IsOwnDisk (node_of (kept_edited kept epoch) end cells cache) reads1 images1
  of_edited of =
      let next = after (record_of 1 of.read.specification ∷ of.read.records) of.settled in
      record {
        now = next.now;
        told = next.told;
        read = record {
          specification = of.read.specification;
          records = of.read.records ++ edition_record epoch ∷ [];
          keeps = blocks_of_same of.read.records (edition_record epoch) refl ∙ of.read.keeps;
          edition = (editions_are_kept of.read.records (edition_record epoch)).told refl (of.read.edition ∙ none) ∙ ap Some (epoch_is_told epoch fits).1;
          names = record {
            holds = next.rest.holds;
            named = names-pass (14 + length of.read.specification) of.read.records kept.entries (edition_record epoch) refl of.read.names.named;
          };
          can = of.read.can;
          agrees = of.read.agrees;
        };
        settled = next;
      }

  pub own_edited : IsOwnDiskWhereTold (node_of kept place cells cache) reads images → OthersRead Log reads reads1
      → IsOwnDiskWhereTold (node_of (kept_edited kept epoch) end cells cache) reads1 images1
  own_edited own others = by_read reads refl
    where
      by_read : (found : Option Image) → reads ≡ found → IsOwnDiskWhereTold (node_of (kept_edited kept epoch) end cells cache) reads1 images1
      by_read None nothing =
          subst (λ (o : Option Image). IsOwnDiskWhereTold (node_of (kept_edited kept epoch) end cells cache) o images1)
          (sym (others.1 ∙ ap (option_map (with_content Log others.0)) nothing)) tt
      by_read (Some image) told =
          let of = of_edited (subst (λ (o : Option Image). IfSome o (λ _. IsOwnDisk (node_of kept place cells cache) reads images)) told own) in
          subst (λ (o : Option Image). IfSome o (λ _. IsOwnDisk (node_of (kept_edited kept epoch) end cells cache) reads1 images1)) (sym of.told) of

-- before the first call the log is as it was
pub appended_none : {D : Type 0} (moment : D → ℕ) (left_since : D → ℕ → Image → Type 0) (images : D → Image → Type 0)
    → ((disk : D) (image : Image) → left_since disk (moment disk) image → images disk image)
    → (place : ℕ) (records : List Record) (r : Record) (reads : Option Image) (disk : D) → IsSettled place records reads (images disk)
    → LeavesOnly moment left_since disk disk (HasAppended place records r (images disk))
appended_none moment left_since images only_now place records r reads disk settled =
    started moment left_since disk _ (λ image left.
    let here = only_now disk image left in
    let rest : IsAtRest place records image.log = subst (IsAtRest place records) (sym (settled.durable image here)) settled.rest in
    (image, here, (image.log, record { rest = inl rest; size = omega arith }, refl)))

pub stands_before : {D : Type 0} (moment : D → ℕ) (left_since : D → ℕ → Image → Type 0) (images : D → Image → Type 0)
    → ((disk : D) (image : Image) → left_since disk (moment disk) image → images disk image)
    → (chain later : Chain) (reads : Option Image) (disk : D) → IsOnlyImage chain reads (images disk)
    → LeavesOnly moment left_since disk disk (λ image. StandsFor chain image ⊎ StandsFor later image)
stands_before moment left_since images only_now chain later reads disk only =
    started moment left_since disk _ (λ image left. inl (subst (StandsFor chain) (sym (only.one image (only_now disk image left))) only.stands))

-- at each moment, by what the log has then
pub edited_moments : (node : NodeValue) (epoch : ℕ) (reads : Option Image) (images : Image → Type 0) (Leaves : (Image → Type 0) → Type 0)
    → ((P Q : Image → Type 0) → Leaves P → ((image : Image) → P image → Q image) → Leaves Q)
    → ((records : List Record) → IsSettled node.place records reads images → Leaves (HasAppended node.place records (edition_record epoch) images))
    → IsOwnDiskWhereTold node reads images → node.chain.spec.second_from ≡ None → epoch < 2 ^ 64 → AllStandBefore epoch node.chain → IsOnlyImage node.chain reads images
    → Leaves (λ image. StandsFor node.chain image ⊎ StandsFor (edited_chain node.chain epoch) image)
edited_moments node epoch reads images Leaves also keeps own none fits all only =
    let of = of_told node reads images only.now only.told own in
    let records : List Record = record_of 1 of.read.specification ∷ of.read.records in
    also (HasAppended node.place records (edition_record epoch) images) (λ image. StandsFor node.chain image ⊎ StandsFor (edited_chain node.chain epoch) image)
    (keeps records of.settled) (edited_either node.chain reads images only node.place records of.settled epoch none all fits)

-- ---- Its bounds

pub bounded_edited : (kept : KeptValue) (place end epoch : ℕ) (cells : StateValue) (body : List ℕ) → IsBounded kept place cells → kept.chain.spec.second_from ≡ None
    → end ≡ place + length body → body ≡ after_gate (edition_record epoch) → IsBounded (kept_edited kept epoch) end cells
bounded_edited kept place end epoch cells body are none sum filled = record {
  few = are.few;
  within = omega (
    arith,
    are.within,
    ap edition_room none,
    sum,
    ap length filled,
    piece_length (edition_record epoch),
    record_length (edition_record epoch),
  );
  below = are.below;
}

-- ---- Where it may have one

-- it is done only where there is none yet
pub done_none : (edition : Option ℕ) (moved : Moved) → moved_from edition moved ≡ Done → edition ≡ None
done_none None moved is = refl
done_none (Some first) moved is = absurd (cc)

done_by : (edition : Option ℕ) (moved : Moved) → moved_from edition moved ≡ Done → moved ≡ Done
done_by None moved is = is
done_by (Some first) moved is = absurd (cc)

-- and where the tip stands before the epoch
pub tip_before : (chain : Chain) (epoch : ℕ) (top : Block) → migration chain epoch ≡ Done → tip chain.blocks ≡ Some top → TipStandsBefore epoch chain top
tip_before chain epoch top done is =
    by_number (ltb 0 top.header.number) refl
    (ap (moved_at chain.spec.epoch_length epoch) (sym is) ∙ done_by chain.spec.second_from (moved_at chain.spec.epoch_length epoch (tip chain.blocks)) done)
  where
    reached : ℕ
    reached = epoch_number chain.spec.epoch_length top.header.number

    by_epoch : (t : Bool) → leb epoch reached ≡ t → (if t then TooEarly reached else Done) ≡ Done → reached < epoch
    by_epoch true late done = absurd (cc)
    by_epoch false late done = by_order
      where
        by_order : reached < epoch
        by_order = grind arith

    by_number : (t : Bool) → ltb 0 top.header.number ≡ t → (if t && leb epoch reached then TooEarly reached else Done) ≡ Done → TipStandsBefore epoch chain top
    by_number false first done = inl (grind arith)
    by_number true first done = inr (by_epoch (leb epoch reached) refl done)

-- then each of its blocks does
all_before : (chain : Chain) (epoch : ℕ) → IsJoined chain → migration chain epoch ≡ Done → AllStandBefore epoch chain
all_before chain epoch joined done =
    let some : 0 < length chain.blocks = slice_get_within chain.blocks 0 joined.genesis joined.first in
    let at = tip_place-there chain.blocks some in
    let top = slice_get-below chain.blocks at.0 (tip_place-below chain.blocks at.0 at.1) in
    let is : tip chain.blocks ≡ Some top.0 = ap (option_and_then (block_at chain.blocks)) at.1 ∙ top.1 in
    the_tip_tells chain epoch top.0 joined is (tip_before chain epoch top.0 done is)

none_before : (chain : Chain) (epoch : ℕ) → migration chain epoch ≡ Done → chain.spec.second_from ≡ None
none_before chain epoch done = done_none chain.spec.second_from (moved_at chain.spec.epoch_length epoch (tip chain.blocks)) done

-- ---- What was answered

module _ (before after : NodeValue) (epoch : ℕ) (reads_old reads_new : Option Image) (old new : Image → Type 0) (done : migration before.chain epoch ≡ Done)
    (it : IsEdited before after epoch reads_old reads_new old new) where
  sound_edited : IsSoundNode before → IsSoundNode after
  sound_edited sound = subst IsSoundNode (sym it.same) (record {
    joined = stays_joined before.chain before.exts epoch sound.joined (none_before before.chain epoch done) (all_before before.chain epoch sound.joined.joined done);
    live = sound.live;
  })

  on_edited : StandsOnDisk before reads_old old → StandsOnDisk after reads_new new
  on_edited on =
      let image = it.image (all_before before.chain epoch on.sound.joined.joined done) on.image in
      record { image = image; of = of_told after reads_new new image.now image.told it.own; sound = sound_edited on.sound }

  pub migrated_edited : IsMigrated before after epoch Done reads_old reads_new old new
  migrated_edited = record {
    answer = sym done;
    same = it.same;
    own = it.own;
    settled = it.settled;
    sound = λ on. sound_edited on.sound;
    on = on_edited;
  }

-- where nothing is done
pub migrated_still : (node : NodeValue) (epoch : ℕ) (moved : Moved) (reads : Option Image) (images : Image → Type 0) → moved ≡ migration node.chain epoch
    → is_done moved ≡ false → IsOwnDiskWhereTold node reads images → IsMigrated node node epoch moved reads reads images images
migrated_still node epoch moved reads images is still own = record {
  answer = is;
  same = ap (λ (t : Bool). record node { chain = if t then edited_chain node.chain epoch else node.chain }) (sym still);
  own = own;
  settled = λ records settled.
      subst (λ (t : Bool). IsSettled node.place (if t then records ++ edition_record epoch ∷ [] else records) reads images) (sym still) settled;
  sound = λ on. on.sound;
  on = λ on. on;
}

module _ {D : Type 0} (reads_as : D → Option Image) (images : D → Image → Type 0) (moment : D → ℕ) (left_since : D → ℕ → Image → Type 0) (node : NodeValue) (epoch : ℕ) where
  -- at each moment, where nothing is called
  pub leaves_still : ((disk : D) (image : Image) → left_since disk (moment disk) image → images disk image) → (disk : D)
      → LeavesMigration reads_as images moment left_since disk disk node epoch
  leaves_still only_now disk = record {
    moments = λ sound only.
        stands_before moment left_since images only_now node.chain (chain_moved node.chain epoch (migration node.chain epoch)) (reads_as disk) disk only;
    keeps = λ records settled. appended_none moment left_since images only_now node.place records (edition_record epoch) (reads_as disk) disk settled;
  }

  -- and where the record is put there
  pub leaves_edited : (old new : D) → migration node.chain epoch ≡ Done
      → (AllStandBefore epoch node.chain → IsOnlyImage node.chain (reads_as old) (images old)
      → LeavesOnly moment left_since old new (λ image. StandsFor node.chain image ⊎ StandsFor (edited_chain node.chain epoch) image))
      → ((records : List Record) → IsSettled node.place records (reads_as old) (images old)
      → LeavesOnly moment left_since old new (HasAppended node.place records (edition_record epoch) (images old)))
      → LeavesMigration reads_as images moment left_since old new node epoch
  leaves_edited old new done moments keeps = record {
    moments = λ sound only.
        subst (λ (moved : Moved). LeavesOnly moment left_since old new (λ image. StandsFor node.chain image ⊎ StandsFor (chain_moved node.chain epoch moved) image)) (sym done)
        (moments (all_before node.chain epoch sound.joined.joined done) only);
    keeps = keeps;
  }

pub other_than_done : (moved : Moved) → (moved ≡ Done → ⊥) → is_done moved ≡ false
other_than_done Done other = absurd (other refl)
other_than_done (TooEarly reached) other = refl
other_than_done (Already first) other = refl

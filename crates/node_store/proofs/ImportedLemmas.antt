-- The parts of an import put together: an item is decided on, which only looks at the disk; a block joins; a snapshot is taken beside it.
use Rattle.std.proofs.Common.{◌≡◌, ◌≢◌, ◌⊎◌, inl, inr, true, false, ℕ, ◌+◌, ◌-◌, ◌≤◌, List, ◌∷◌, ◌++◌, length, Option, Some, None, Result, Ok, Err, refl, sym, ap, ◌∙◌, subst, arith}
use Rattle.std.specs.Prelude.{IfSome, IsSome, IfErr}
use Rattle.outside.specs.declared.disk.ReadStop.{ReadStop}
use Rattle.outside.specs.declared.disk.ReadStop.TheVariants.{DiskFault, NoMemory}
use Rattle.outside.specs.declared.disk.Area.TheVariants.{Log}
use Rattle.outside.specs.Image.{Image}
use Rattle.outside.proofs.Moments.{leaves_also, leaves_then}
use Rattle.outside.specs.Disk.{OthersRead, LeavesOnly, IsAsBefore, ComesBy, AreaKept}
use Rattle.chain_defs.specs.Shape.{decoded}
use Rattle.chain_defs.specs.Schema.{Block, block}
use Rattle.chain_defs.specs.Ext.{ext_bytes}
use Rattle.cell_state.specs.State.{StateValue, rows}
use Rattle.verdict_defs.specs.Chain.{Chain, chain_after, verdict_over}
use Rattle.verdict_defs.specs.Verdict.{joins}
use Rattle.verdict_defs.specs.declared.verdict.Verdict.{Verdict}
use Rattle.verdict_defs.specs.declared.verdict.Verdict.TheVariants.{Joined}
use Rattle.disk_defs.specs.Log.{Record}
use Rattle.disk_defs.specs.Rest.{IsSettled}
use Rattle.snapshots.specs.Writing.{HasAnyArea}
use Rattle.store_defs.specs.Store.{StandsFor, AreJoined}
use Rattle.log_file.specs.Pieces.{block_record}
use Rattle.node_store.specs.declared.decision.Decision.{Decision}
use Rattle.node_store.specs.declared.decision.Decision.TheVariants.{Joins, Stays}
use Rattle.node_store.specs.declared.decision.Joining.{Joining}
use Rattle.node_store.specs.Import.{IsImported, LeavesEither, IsLogged, BeginsNone, TakesSteps, IsDecidedOn, HasJoined}
use Rattle.node_store.specs.Judging.{IsReadyItem, IsDecided, place_for}
use Rattle.node_store.specs.Held.{CacheValue}
use Rattle.node_store.specs.Kept.{KeptValue, AreRowsOfFound, AreRowsOfTip}
use Rattle.node_store.specs.Node.{NodeValue, node_of, kept_in, IsOwnDiskWhereTold, IsSoundNode, IsSoundWhereTold, IsOnlyImage, StandsOnDisk, IsLeftByImport, IsSettledAfter}
use Rattle.node_store.specs.Snapshot.{snapshot_at, LeavesSnapshots, OthersReadBut, OnlySnapshotReads, HasSnapshot, LacksSnapshot, IsSettledWith}
use Rattle.node_store.specs.Steps.{moves_for, moves_until, moves_to_join}
use Rattle.node_store.proofs.BesideLemmas.{others-log, others-both, own-beside, on-beside, after-beside, behind-beside, keeps-beside, moments-beside}
use Rattle.node_store.proofs.ImportLemmas.{joined_stays_not, verdict_is, stays_so}
use Rattle.node_store.proofs.DiskLemmas.{before_calls}
use Rattle.node_store.proofs.KeepingLemmas.{any-here, started_import, settled_still, settled_grown}
use Rattle.node_store.proofs.StayingLemmas.{of-told, sound-on, sound-joined, settled-looked, only-looked, others-looked, moments-looked, keeps-looked, others-then, moments-then, keeps-then}
use Rattle.node_store.proofs.StepLemmas.{moves-on-tip, moves-joining, with-stays, with-joins}

-- What is known of a node that a block joins, of its parts.
pub record AreParts (kept : KeptValue) (cells : StateValue) (item : List ℕ) (joining : Joining) : Type 0 where
  pub decided : IsDecided kept.chain item (Joins joining)
  pub joined : AreJoined kept.chain kept.exts
  pub live : AreRowsOfFound kept.chain.blocks (place_for kept.chain.blocks (Joins joining)) (rows cells)

-- ---- How many steps

module _ (before : NodeValue) (item : List ℕ) (start mid : ℕ) (most : mid ≤ start + (moves_for before.chain item - 1)) where
  pub steps-stopped : (stop : ReadStop) → TakesSteps before item (Err stop) start mid
  steps-stopped stop = record {
    exactly = tt;
    steps = λ b is on_tip. omega (arith, most, moves-on-tip before.chain item b is on_tip);
    most = omega (arith, most);
    stays = tt;
  }

  pub steps-stayed : (node : NodeValue) (answer : Verdict) → joins answer ≡ false → mid ≡ start + moves_until before.chain.blocks (moves_for before.chain item) (Stays answer)
      → TakesSteps before item (Ok (node, answer)) start mid
  steps-stayed node answer stays each = record {
    exactly = subst (λ (n : ℕ). mid ≡ start + n) (sym (with-stays before.chain item answer stays)) each;
    steps = λ b is on_tip. omega (arith, most, moves-on-tip before.chain item b is on_tip);
    most = omega (arith, most);
    stays = λ _. most;
  }

  module _ (end : ℕ) (own : end ≤ mid + 1) (some : 1 ≤ moves_for before.chain item) where
    pub steps-joining : (stop : ReadStop) → TakesSteps before item (Err stop) start end
    steps-joining stop = record {
      exactly = tt;
      steps = λ b is on_tip. omega (arith, own, most, moves-on-tip before.chain item b is on_tip);
      most = omega (arith, own, most, some);
      stays = tt;
    }

    pub steps-joined : (node : NodeValue) (joining : Joining) → mid ≡ start + moves_until before.chain.blocks (moves_for before.chain item) (Joins joining)
        → end ≡ mid + moves_to_join before.chain.blocks joining → TakesSteps before item (Ok (node, Joined joining.entry.number joining.entry.hash)) start end
    steps-joined node joining first taken = record {
      exactly = with-joins before.chain item joining start mid end first taken;
      steps = λ b is on_tip. omega (arith, own, most, moves-on-tip before.chain item b is on_tip);
      most = omega (arith, own, most, some);
      stays = λ stays. absurd (joined_stays_not stays);
    }

module _ {S C : Type 0} (content_of : S → C) (reads_as : S → Option Image) (images : S → Image → Type 0) (moment : S → ℕ) (left_since : S → ℕ → Image → Type 0)
    (rests : (old new : S) → content_of new ≡ content_of old → IsAsBefore reads_as images moment left_since old new)
    (old mid : S) (looked : content_of mid ≡ content_of old) (before : NodeValue) (item : List ℕ) where
  -- ---- An item was only looked at

  pub left-looked : (IsSound : Type 0) → LeavesEither reads_as images moment left_since old mid IsSound before item
  left-looked IsSound = record {
    moments = λ _ only. moments-looked content_of reads_as images moment left_since rests old mid looked before.chain item only;
    keeps = λ records settled. keeps-looked content_of reads_as images moment left_since rests old mid looked before.place records item settled;
  }

  others-same : OthersReadBut (snapshot_at (length before.chain.blocks)) (reads_as old) (reads_as mid)
  others-same =
      others-log (snapshot_at (length before.chain.blocks)) (reads_as old) (reads_as mid)
      (others-looked content_of reads_as images moment left_since rests old mid looked)

  pub snapshots-looked : LeavesSnapshots reads_as images moment left_since old mid
  snapshots-looked = record {
    reads = others-looked content_of reads_as images moment left_since rests old mid looked;
    moments = λ _. leaves_also moment left_since old mid (images old) (HasAnyArea Log (images old)) (rests old mid looked).moments (any-here Log (images old));
  }

  -- and LOG alone was written then
  pub snapshots-joining : (new : S) → OthersRead Log (reads_as mid) (reads_as new)
      → (IsSome (reads_as mid) → LeavesOnly moment left_since mid new (HasAnyArea Log (images mid))) → LeavesSnapshots reads_as images moment left_since old new
  snapshots-joining new others beside = record {
    reads = others-then content_of reads_as images moment left_since rests old mid looked new others;
    moments = λ told.
        leaves_then moment left_since old mid new (HasAnyArea Log (images old)) (snapshots-looked.moments told)
        (leaves_also moment left_since mid new (HasAnyArea Log (images mid)) (HasAnyArea Log (images old))
        (beside (subst IsSome (sym (rests old mid looked).reads) told))
        (λ image (before, left, step). (before, ((rests old mid looked).images before).0 left, step)));
  }

  -- the judge was stopped
  pub logged-stopped : (stop : ReadStop) → IsLogged before item (Err stop) (content_of old) (content_of mid) (reads_as old) (reads_as mid) (images old) (images mid)
  logged-stopped stop = record {
    settled = λ _ _. tt;
    others = others-same;
    snapshot = λ _ _ _ _. tt;
    still = λ _ _. looked;
    unwritten = tt;
    untouched = λ _. inl looked;
  }

  module _ (node : NodeValue) (decision : Decision) (decided : IsDecidedOn before node item decision (reads_as old) (reads_as mid) (images mid)) where
    chain-is : node.chain ≡ before.chain
    chain-is = ap (λ (v : NodeValue). v.chain) decided.same

    live : (is : Decision) → decision ≡ is → IsSoundWhereTold before (reads_as old) → AreRowsOfFound before.chain.blocks (place_for before.chain.blocks is) (rows node.cells)
    live is found sound =
        subst (λ (d : Decision). AreRowsOfFound before.chain.blocks (place_for before.chain.blocks d) (rows node.cells)) found (decided.cells sound)

    -- ---- It stays out

    module _ (answer : Verdict) (found : decision ≡ Stays answer) where
      stays : joins answer ≡ false
      stays = subst (IsReadyItem before.chain item) found decided.ready

      answer-is : IsSoundWhereTold before (reads_as old) → answer ≡ verdict_over before.chain item
      answer-is sound = subst (IsDecided before.chain item) found (decided.decided sound)

      sound-here : IsSoundWhereTold before (reads_as old) → IsSoundNode node
      sound-here sound = subst IsSoundNode (sym decided.same) (record { joined = sound.sound.joined; live = live (Stays answer) found sound })

      only-here : IsOnlyImage before.chain (reads_as old) (images old) → IsOnlyImage node.chain (reads_as mid) (images mid)
      only-here only =
          subst (λ (k : Chain). IsOnlyImage k (reads_as mid) (images mid)) (sym chain-is)
          (only-looked content_of reads_as images moment left_since rests old mid looked before.chain only)

      pub steps-out : (start now : ℕ) → now ≤ start + (moves_for before.chain item - 1) → now ≡ start + moves_until before.chain.blocks (moves_for before.chain item) decision
          → TakesSteps before item (Ok (node, answer)) start now
      steps-out start now most each =
          steps-stayed before item start now most node answer stays
          (subst (λ (d : Decision). now ≡ start + moves_until before.chain.blocks (moves_for before.chain item) d) found each)

      pub imported-stays : IsImported before node item answer (reads_as old) (reads_as mid) (images old) (images mid)
      imported-stays = record {
        own = decided.own;
        verdict = answer-is;
        kept = λ sound. chain-is ∙ stays_so before.chain item (ap joins (sym (answer-is sound)) ∙ stays);
        sound = sound-here;
        on = λ on. record {
          image = only-here on.image;
          of = of-told node node.chain (reads_as mid) (images mid) (only-here on.image) decided.own;
          sound = sound-here (sound-on before (reads_as old) (images old) on);
        };
        spec = ap (λ (k : Chain). k.spec) chain-is;
        holds = λ joined. absurd (joined_stays_not (sym joined ∙ stays));
        room = ap (λ (v : NodeValue). v.most) decided.same;
        found = ap (λ (v : NodeValue). v.damages) decided.same;
      }

      pub logged-stays : IsLogged before item (Ok (node, answer)) (content_of old) (content_of mid) (reads_as old) (reads_as mid) (images old) (images mid)
      logged-stays = record {
        settled = λ records settled.
            settled_still records item answer node.place (reads_as mid) (images mid) stays
            (subst (λ (p : ℕ). IsSettled p records (reads_as mid) (images mid)) (sym (ap (λ (v : NodeValue). v.place) decided.same))
            (settled-looked content_of reads_as images moment left_since rests old mid looked before.place records settled));
        others = others-same;
        snapshot = λ _ sound joined _. absurd (joined_stays_not (sym joined ∙ ap joins (sym (answer-is sound)) ∙ stays));
        still = λ _ _. looked;
        unwritten = λ _. looked;
        untouched = tt;
      }

    -- ---- It can join

    module _ (joining : Joining) (found : decision ≡ Joins joining) where
      pub ready-here : IsReadyItem before.chain item (Joins joining)
      ready-here = subst (IsReadyItem before.chain item) found decided.ready

      pub ready-there : IsReadyItem node.chain item (Joins joining)
      ready-there = subst (λ (k : Chain). IsReadyItem k item (Joins joining)) (sym chain-is) ready-here

      decided-here : IsSoundWhereTold before (reads_as old) → IsDecided before.chain item (Joins joining)
      decided-here sound = subst (IsDecided before.chain item) found (decided.decided sound)

      pub verdict-here : IsSoundWhereTold before (reads_as old) → Joined joining.entry.number joining.entry.hash ≡ verdict_over before.chain item
      verdict-here sound = verdict_is before.chain item joining (decided-here sound) ready-here

      pub takes-one : 1 ≤ moves_for before.chain item
      takes-one = moves-joining before.chain item joining ready-here

      -- so many steps it took
      pub steps-in : (next : NodeValue) (start now end : ℕ) → now ≤ start + (moves_for before.chain item - 1) → end ≤ now + 1
          → now ≡ start + moves_until before.chain.blocks (moves_for before.chain item) decision → end ≡ now + moves_to_join node.chain.blocks joining
          → TakesSteps before item (Ok (next, Joined joining.entry.number joining.entry.hash)) start end
      steps-in next start now end most own first taken =
          steps-joined before item start now most end own takes-one next joining
          (subst (λ (d : Decision). now ≡ start + moves_until before.chain.blocks (moves_for before.chain item) d) found first)
          (subst (λ (k : Chain). end ≡ now + moves_to_join k.blocks joining) chain-is taken)

      -- what is known of it as it joins
      pub sound-parts : IsSoundWhereTold before (reads_as old) → AreParts (kept_in node) node.cells item joining
      sound-parts sound =
          subst (λ (v : NodeValue). AreParts (kept_in v) node.cells item joining) (sym decided.same)
          (record { decided = decided-here sound; joined = sound.sound.joined; live = live (Joins joining) found sound })

      module _ (new : S) where
        pub left-joining : LeavesEither reads_as images moment left_since mid new (IsDecided node.chain item (Joins joining)) node item
            → LeavesEither reads_as images moment left_since old new (IsSoundWhereTold before (reads_as old)) before item
        left-joining left =
            let here : LeavesEither reads_as images moment left_since mid new (IsDecided before.chain item (Joins joining))
            (record before { cells = node.cells; held = node.held }) item =
            subst (λ (v : NodeValue). LeavesEither reads_as images moment left_since mid new (IsDecided v.chain item (Joins joining)) v item) decided.same left in
            record {
              moments = λ sound only.
                  moments-then content_of reads_as images moment left_since rests old mid looked new before.chain item only
                  (here.moments (decided-here sound) (only-looked content_of reads_as images moment left_since rests old mid looked before.chain only));
              keeps = λ records settled.
                  keeps-then content_of reads_as images moment left_since rests old mid looked new before.place records item settled
                  (here.keeps records (settled-looked content_of reads_as images moment left_since rests old mid looked before.place records settled));
            }

        module _ (others : OthersRead Log (reads_as mid) (reads_as new)) where
          others-joined : OthersRead Log (reads_as old) (reads_as new)
          others-joined = others-then content_of reads_as images moment left_since rests old mid looked new others

          still-not : IsSoundWhereTold before (reads_as old) → joins (verdict_over before.chain item) ≡ false → ⊥
          still-not sound stays = joined_stays_not (ap joins (verdict-here sound) ∙ stays)

          -- it was stopped
          pub logged-joining : (stop : ReadStop) → (stop ≢ DiskFault → new ≡ mid)
              → IsLogged before item (Err stop) (content_of old) (content_of new) (reads_as old) (reads_as new) (images old) (images new)
          logged-joining stop untouched = record {
            settled = λ _ _. tt;
            others = others-log (snapshot_at (length before.chain.blocks)) (reads_as old) (reads_as new) others-joined;
            snapshot = λ _ _ _ _. tt;
            still = λ sound stays. absurd (still-not sound stays);
            unwritten = tt;
            untouched = λ other. inl (ap content_of (untouched other) ∙ looked);
          }

          module _ (next : NodeValue) (joined : HasJoined node next item joining (reads_as mid) (reads_as new) (images mid) (images new)) where
            here : HasJoined (record before { cells = node.cells; held = node.held }) next item joining (reads_as mid) (reads_as new) (images mid) (images new)
            here = subst (λ (v : NodeValue). HasJoined v next item joining (reads_as mid) (reads_as new) (images mid) (images new)) decided.same joined

            sound-next : IsSoundWhereTold before (reads_as old) → IsSoundNode next
            sound-next sound =
                sound-joined before.chain item next (here.kept (decided-here sound)) sound.sound.joined.joined
                (here.exts (decided-here sound) sound.sound.joined.own) (here.live (live (Joins joining) found sound))

            pub imported-joins : IsImported before next item (Joined joining.entry.number joining.entry.hash) (reads_as old) (reads_as new) (images old) (images new)
            imported-joins = record {
              own = here.own;
              verdict = verdict-here;
              kept = λ sound. here.kept (decided-here sound);
              sound = sound-next;
              on = λ on.
                  let sound = sound-on before (reads_as old) (images old) on in
                  let image = here.image (decided-here sound) (only-looked content_of reads_as images moment left_since rests old mid looked before.chain on.image) in
                  record {
                    image = image;
                    of = of-told next next.chain (reads_as new) (images new) image here.own;
                    sound = sound-next sound;
                  };
              spec = here.spec;
              holds = λ _. here.holds;
              room = here.room;
              found = here.found;
            }

            -- its record is there
            settled-joined : (records : List Record) → IsSettled before.place records (reads_as old) (images old)
                → IsSettledAfter records item (Joined joining.entry.number joining.entry.hash) next.place (reads_as new) (images new)
            settled-joined records settled =
                settled_grown records item (ext_bytes joining.ext) (Joined joining.entry.number joining.entry.hash) next.place (reads_as new) (images new) refl
                (here.settled records (settled-looked content_of reads_as images moment left_since rests old mid looked before.place records settled))

            -- ---- And a snapshot was taken, or not

            module _ (counts_now : (disk : S) (t : ℕ) (image : Image) → t ≤ moment disk → images disk image → left_since disk t image)
                (end : S) (due : Option ℕ) (due-is : due ≡ snapshot_at (length before.chain.blocks))
                (log : LeavesOnly moment left_since new end (ComesBy (AreaKept Log) (images new)))
                (beside : OnlySnapshotReads due (reads_as new) (reads_as end)) where
              others-end : OthersReadBut (snapshot_at (length before.chain.blocks)) (reads_as old) (reads_as end)
              others-end =
                  subst (λ (d : Option ℕ). OthersReadBut d (reads_as old) (reads_as end)) due-is
                  (others-both due (reads_as old) (reads_as new) (reads_as end) others-joined beside)

              pub imported-beside : (AreRowsOfTip next.chain.blocks (rows next.cells) → IsOnlyImage next.chain (reads_as new) (images new) → IsOnlyImage next.chain (reads_as end) (images end))
                  → IsImported before next item (Joined joining.entry.number joining.entry.hash) (reads_as old) (reads_as end) (images old) (images end)
              imported-beside image = record {
                own = own-beside reads_as images moment left_since counts_now new end due log beside next imported-joins.own;
                verdict = imported-joins.verdict;
                kept = imported-joins.kept;
                sound = imported-joins.sound;
                on = λ on.
                    let then = imported-joins.on on in
                    on-beside reads_as images moment left_since counts_now new end due log beside next then (image then.sound.live then.image);
                spec = imported-joins.spec;
                holds = imported-joins.holds;
                room = imported-joins.room;
                found = imported-joins.found;
              }

              pub left-beside : IsOwnDiskWhereTold before (reads_as old) (images old)
                  → (AreRowsOfTip next.chain.blocks (rows next.cells) → IsOnlyImage next.chain (reads_as new) (images new) → LeavesOnly moment left_since new end (StandsFor next.chain))
                  → LeavesEither reads_as images moment left_since old new (IsSoundWhereTold before (reads_as old)) before item
                  → LeavesEither reads_as images moment left_since old end (IsSoundWhereTold before (reads_as old)) before item
              left-beside own moments first = record {
                moments = λ sound only.
                    let then = imported-joins.on (record { image = only; of = of-told before before.chain (reads_as old) (images old) only own; sound = sound.sound }) in
                    moments-beside reads_as images moment left_since counts_now new end due log beside old before.chain next.chain item (imported-joins.kept sound)
                    (first.moments sound only) (moments then.sound.live then.image);
                keeps = λ records settled.
                    keeps-beside reads_as images moment left_since counts_now new end due log beside old before.place records item (first.keeps records settled);
              }

              pub logged-beside : ((number : ℕ) → due ≡ Some number → AreRowsOfTip next.chain.blocks (rows next.cells) → IfSome (reads_as end) (HasSnapshot next.chain.blocks number))
                  → IsLogged before item (Ok (next, Joined joining.entry.number joining.entry.hash)) (content_of old) (content_of end) (reads_as old) (reads_as end) (images old) (images end)
              logged-beside taken = record {
                settled = λ records settled.
                    after-beside reads_as images moment left_since counts_now new end due log beside records item (Joined joining.entry.number joining.entry.hash) next.place
                    (settled-joined records settled);
                others = others-end;
                snapshot = λ number sound _ at. taken number (due-is ∙ at) (sound-next sound).live;
                still = λ sound stays. absurd (still-not sound stays);
                unwritten = λ stays. absurd (joined_stays_not stays);
                untouched = tt;
              }

              pub logged-without : (stop : ReadStop) → (stop ≢ DiskFault → (stop ≡ NoMemory) × IsSome due)
                  → IsLogged before item (Err stop) (content_of old) (content_of end) (reads_as old) (reads_as end) (images old) (images end)
              logged-without stop lacks = record {
                settled = λ _ _. tt;
                others = others-end;
                snapshot = λ _ _ _ _. tt;
                still = λ sound stays. absurd (still-not sound stays);
                unwritten = tt;
                untouched = λ other.
                    let why = lacks other in
                    inr (record {
                      memory = why.0;
                      due = subst (λ (d : Option ℕ). IsSome d) due-is why.1;
                      joined = λ records settled.
                          behind-beside reads_as images moment left_since counts_now new end due log beside records item (Joined joining.entry.number joining.entry.hash) next.place
                          refl (settled-joined records settled);
                    });
              }

-- ---- No snapshot was begun

-- as none was due where a block joined
pub due-none : (due : Option ℕ) (node : NodeValue) (answer : Verdict) → joins answer ≡ true → BeginsNone due (Ok (node, answer)) → due ≡ None
due-none None node answer joined none = refl
due-none (Some number) node answer joined none = absurd (joined_stays_not (sym joined ∙ none))

-- or as the disk did not fail
pub none-begun : (due : Option ℕ) (stop : ReadStop) → BeginsNone due (Err stop) → (due ≡ None) ⊎ (stop ≢ DiskFault)
none-begun None stop none = inl refl
none-begun (Some number) stop none = inr none

-- ---- While a block joins

-- the disk was not called
pub left-still : {S : Type 0} (reads_as : S → Option Image) (images : S → Image → Type 0) (moment : S → ℕ) (left_since : S → ℕ → Image → Type 0)
    → ((disk : S) (image : Image) → left_since disk (moment disk) image → images disk image)
    → (disk : S) (IsSound : Type 0) (node : NodeValue) (item : List ℕ) → LeavesEither reads_as images moment left_since disk disk IsSound node item
left-still reads_as images moment left_since only_now disk IsSound node item = record {
  moments = λ _ only. before_calls moment left_since images only_now node.chain (reads_as disk) disk item only;
  keeps = λ records settled. started_import moment left_since images only_now node.place records item (reads_as disk) disk settled;
}

pub inside-parts : (kept : KeptValue) (place : ℕ) (cells : StateValue) (cache : CacheValue) (node : NodeValue) (item : List ℕ) (joining : Joining)
    → node_of kept place cells cache ≡ node → IsDecided node.chain item (Joins joining) → AreJoined node.chain node.exts
    → AreRowsOfFound node.chain.blocks (place_for node.chain.blocks (Joins joining)) (rows node.cells) → AreParts kept cells item joining
inside-parts kept place cells cache node item joining whole decided joined live =
    subst (λ (v : NodeValue). AreParts (kept_in v) v.cells item joining) (sym whole) (record { decided = decided; joined = joined; live = live })

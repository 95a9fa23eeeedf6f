-- An item that was kept, and what is watched after it: the disk was written and then only read.
use Rattle.std.proofs.Common.{◌≡◌, ℕ, ◌<◌, ◌≤◌, ◌++◌, List, length, Option, Some, None, sym, ap, ◌∙◌, subst, arith, length-append}
use Rattle.std.specs.Prelude.{IfSome}
use Rattle.outside.specs.Image.{Image}
use Rattle.outside.specs.Disk.{SameImages, IsAsBefore, IsKnownAsBefore}
use Rattle.chain_defs.specs.Schema.{Block}
use Rattle.chain_defs.specs.Tip.{tip_place}
use Rattle.chain_defs.proofs.TipLaws.{tip_place-below}
use Rattle.disk_defs.specs.Log.{Record}
use Rattle.disk_defs.specs.Rest.{IsSettled}
use Rattle.verdict_defs.specs.declared.verdict.Verdict.{Verdict}
use Rattle.verdict_defs.specs.Chain.{Chain, chain_after, verdict_over}
use Rattle.report_defs.specs.Text.{line}
use Rattle.report_defs.specs.Report.{balance_over, line_over}
use Rattle.node_store.specs.Import.{IsImported, LeavesEither}
use Rattle.node_store.specs.Node.{NodeValue, IsOwnDisk, IsOwnDiskWhereTold, IsSoundNode, IsSoundWhereTold, IsOnlyImage, StandsOnDisk, LeavesAll, IsSettledAfter}
use Rattle.run_text.proofs.StoreLemmas.{if_told}
use Rattle.run_store.proofs.DiskLemmas.{sound_after}
use Rattle.run_store.proofs.LookLemmas.{leaves_looked}
use Rattle.cell_index.specs.Balance.{BalanceValue}
use Rattle.run_import.specs.Watching.{IsWatchAt, IsWatching, IsSoundWatching, IsFollowed}
use Rattle.run_import.proofs.WatchLemmas.{after-more, watch-more, watch-at}

-- ---- What is watched, over the blocks after an item

abbrev blocks_after : Chain → List ℕ → List Block
blocks_after chain item = (chain_after chain item).blocks

pub watch-there : (before : Chain) (mid : NodeValue) (item : List ℕ) (watched : Option (List ℕ)) (watch : Option BalanceValue) (place : ℕ)
    → tip_place before.blocks ≡ Some place → mid.chain ≡ chain_after before item → IsWatching watched before.blocks watch
    → IsWatchAt watched mid.chain.blocks place watch
watch-there before mid item watched watch place is kept watching =
    let more = after-more before.spec before.blocks item in
    subst (λ (blocks : List Block). IsWatchAt watched blocks place watch) (sym (ap (λ (chain : Chain). chain.blocks) kept ∙ more.1))
    (watch-more watched before.blocks more.0 place watch (tip_place-below before.blocks place is) (watch-at watched before.blocks place watch is watching))

-- a place of the tip is one of a block still
pub still-below : (before : Chain) (mid : NodeValue) (item : List ℕ) (place : ℕ) → tip_place before.blocks ≡ Some place → mid.chain ≡ chain_after before item
    → place < length mid.chain.blocks
still-below before mid item place is kept =
    let more = after-more before.spec before.blocks item in
    omega (
      arith,
      tip_place-below before.blocks place is,
      ap (λ (chain : Chain). length chain.blocks) kept,
      ap (λ (blocks : List Block). length blocks) more.1,
      length-append before.blocks more.0,
    )

-- ---- A disk that is only read

settled-still : (before after : Option Image) (old new : Image → Type 0) → after ≡ before → SameImages old new → (place : ℕ) (records : List Record)
    → IsSettled place records before old → IsSettled place records after new
settled-still before after old new same images place records settled = record {
  now = settled.now;
  told = same ∙ settled.told;
  rest = settled.rest;
  durable = λ image left. settled.durable image ((images image).0 left);
}

sound-still : (mid next : NodeValue) → next ≡ record mid { held = next.held; damages = next.damages } → IsSoundNode mid → IsSoundNode next
sound-still mid next same sound = subst IsSoundNode (sym same) (record { joined = sound.joined; live = sound.live })

only-still : (chain : Chain) (before after : Option Image) (old new : Image → Type 0) → after ≡ before → SameImages old new
    → IsOnlyImage chain before old → IsOnlyImage chain after new
only-still chain before after old new same images only = record {
  now = only.now;
  told = same ∙ only.told;
  one = λ image left. only.one image ((images image).0 left);
  stands = only.stands;
}

module _ {D C : Type 0} (content_of : D → C) (reads_as : D → Option Image) (images : D → Image → Type 0) (moment : D → ℕ) (left_since : D → ℕ → Image → Type 0)
    (rests : (old new : D) → content_of new ≡ content_of old → IsAsBefore reads_as images moment left_since old new) where
  -- an import and then a look
  pub left-looked : ((disk : D) (t : ℕ) (image : Image) → t ≤ moment disk → images disk image → left_since disk t image)
      → (old mid new : D) (sound : Type 0) (node : NodeValue) (item : List ℕ) → LeavesEither reads_as images moment left_since old mid sound node item
      → content_of new ≡ content_of mid → LeavesEither reads_as images moment left_since old new sound node item
  left-looked counts_now old mid new sound node item left looked = record {
    moments = λ is only. leaves_looked content_of reads_as images moment left_since rests counts_now old mid new _ (left.moments is only) looked;
    keeps = λ records settled. leaves_looked content_of reads_as images moment left_since rests counts_now old mid new _ (left.keeps records settled) looked;
  }

  pub settled-looked : (mid new : D) (node next : NodeValue) (records : List Record) (item : List ℕ) (answer : Verdict) → node.place ≡ next.place
      → content_of new ≡ content_of mid → IsSettledAfter records item answer node.place (reads_as mid) (images mid)
      → IsSettledAfter records item answer next.place (reads_as new) (images new)
  settled-looked mid new node next records item answer same looked (later, are, settled) =
      let as_before = rests mid new looked in (
        later,
        are,
        subst (λ (place : ℕ). IsSettled place later (reads_as new) (images new)) same
            (settled-still (reads_as mid) (reads_as new) (images mid) (images new) as_before.reads as_before.images node.place later settled),
      )

  pub followed : {faults : D → ℕ} (old mid new : D) (before node next : NodeValue) (watch later : Option BalanceValue) (item : List ℕ) (answer : Verdict)
      → IsImported before node item answer (reads_as old) (reads_as mid) (images old) (images mid)
      → LeavesAll content_of reads_as images faults mid new node next None
      → ((watched : Option (List ℕ)) → IsSoundWatching watched before watch (reads_as old) → IsWatching watched node.chain.blocks later)
      → IsFollowed before next watch later item answer (reads_as old) (reads_as new) (images old) (images new)
  followed old mid new before node next watch later item answer imported left watches =
      let as_before = rests mid new left.content in
      let same : next.chain ≡ node.chain = ap (λ (n : NodeValue). n.chain) left.node in
      record {
        own = left.own;
        verdict = imported.verdict;
        kept = λ sound. same ∙ imported.kept sound;
        sound = λ sound. sound-still node next left.node (imported.sound sound);
        on = λ on.
            let here = imported.on on in
            let only = only-still node.chain (reads_as mid) (reads_as new) (images mid) (images new) as_before.reads as_before.images here.image in
            record {
              image = subst (λ (chain : Chain). IsOnlyImage chain (reads_as new) (images new)) (sym same) only;
              of = if_told (reads_as new) (λ _. IsOwnDisk next (reads_as new) (images new)) only.now left.own only.told;
              sound = sound-still node next left.node here.sound;
            };
        watching = λ watched sound. subst (λ (chain : Chain). IsWatching watched chain.blocks later) (sym same) (watches watched sound);
      }

-- the node is sound after it
pub sound-there : (before mid : NodeValue) (reads_old reads_mid : Option Image) → IsKnownAsBefore reads_old reads_mid → (IsSoundWhereTold before reads_old → IsSoundNode mid)
    → IsSoundWhereTold before reads_old → IsSoundWhereTold mid reads_mid
sound-there before mid reads_old reads_mid told sound is = sound_after mid reads_old reads_mid is.told told (sound is)

-- ---- The line of an item that was kept

pub line-there : (before after : NodeValue) (watch later : Option BalanceValue) (item : List ℕ) (answer : Verdict) (reads_old reads_new : Option Image)
    (old new : Image → Type 0) → IsFollowed before after watch later item answer reads_old reads_new old new → (watched : Option (List ℕ))
    → IsSoundWatching watched before watch reads_old → (balance : Option (ℕ × ℕ)) → balance ≡ balance_over watched after.chain
    → line answer balance ≡ line_over watched before.chain item
line-there before after watch later item answer reads_old reads_new old new followed watched is balance balance_is =
    ap (λ (v : Verdict). line v balance) (followed.verdict is.sound)
    ∙ ap (line (verdict_over before.chain item)) (balance_is ∙ ap (balance_over watched) (followed.kept is.sound))

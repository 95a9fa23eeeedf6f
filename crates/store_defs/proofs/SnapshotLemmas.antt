-- The images that stand for a chain, by what stands in their areas of snapshots.
use Rattle.std.proofs.Common.{◌≡◌, ℕ, Bool, true, false, List, [], ◌∷◌, ◌++◌, length, Some, refl, sym, ap, ◌∙◌, subst, arith}
use Rattle.std.specs.Prelude.{◌==◌, if◌then◌else◌}
use Rattle.std.proofs.lemmas.Bool.{ne_eqb}
use Rattle.chain_defs.specs.Schema.{Block}
use Rattle.outside.specs.declared.disk.Area.TheVariants.{Log, SnapA, SnapB}
use Rattle.outside.specs.Image.{Image, with_content}
use Rattle.verdict_defs.specs.Verdict.{verdict, joins, kept_after}
use Rattle.verdict_defs.specs.Chain.{Chain, chain_after}
use Rattle.verdict_defs.specs.Laws.{CanJoin}
use Rattle.verdict_defs.proofs.VerdictLaws.{joins-exactly, keeps-what-joins, kept_after-stays}
use Rattle.disk_defs.specs.Log.{LogContent, log_of}
use Rattle.disk_defs.specs.Snapshot.{has_open_gate, area_of, IsSoundArea}
use Rattle.disk_defs.proofs.AreaLaws.{closed-is-sound, held-is-sound, none-in-the-log, sound-holds-its-own}
use Rattle.disk_defs.proofs.StayLaws.{stays-sound}
use Rattle.store_defs.specs.Store.{NoLog, Keeps, store_of, store_of_log, chain_of, StandsFor, IsSound}
use Rattle.store_defs.specs.SnapshotLaws.{StaysSoundAfterAnItem, IsLogOf, StandsByParts, StandsByItsLog, StandsWithoutSnapshots, StandsWithSoundArea, StandsWithClosedArea, StandsWithSnapshot, StandsWhereItSaysTheSame, SoundStandsForTheSame, StandsForWhatItKeeps, NumbersDiffer}

pub stays_sound_after_an_item : StaysSoundAfterAnItem
stays_sound_after_an_item chain item area bytes sound = by_joins (joins (verdict chain.spec chain.blocks item)) refl
  where
    by_joins : (b : Bool) → joins (verdict chain.spec chain.blocks item) ≡ b → IsSoundArea (chain_after chain item).blocks area bytes
    by_joins false left = subst (λ (blocks : List Block). IsSoundArea blocks area bytes) (sym (kept_after-stays chain.spec chain.blocks item left)) sound
    by_joins true joins_now =
        let can : CanJoin chain.spec chain.blocks item = (joins-exactly chain.spec chain.blocks item).0 joins_now in
        let after : kept_after chain.spec chain.blocks item ≡ chain.blocks ++ can.block ∷ [] = ((keeps-what-joins chain.spec chain.blocks item).0 can).1 in
        subst (λ (blocks : List Block). IsSoundArea blocks area bytes) (sym after) (stays-sound chain.blocks can.block area bytes sound)

-- ---- An image

log_there : (chain : Chain) (image : Image) → StandsFor chain image → IsLogOf chain image.log
log_there chain image stands = record { log = stands.log; is_log = stands.is_log; keeps = stands.keeps; joined = stands.joined }

pub stands_of : (chain : Chain) (image : Image) → IsLogOf chain image.log → IsSoundArea chain.blocks SnapA image.snap_a
    → IsSoundArea chain.blocks SnapB image.snap_b → StandsFor chain image
stands_of chain image is snap_a snap_b =
    record { log = is.log; is_log = is.is_log; keeps = is.keeps; joined = is.joined; snap_a = snap_a; snap_b = snap_b }

pub stands_by_parts : StandsByParts
stands_by_parts chain image = (
  λ stands. (log_there chain image stands, record { snap_a = stands.snap_a; snap_b = stands.snap_b }),
  λ parts. stands_of chain image parts.0 parts.1.snap_a parts.1.snap_b,
)

pub stands_by_its_log : StandsByItsLog
stands_by_its_log chain image closed_a closed_b = (
  log_there chain image,
  λ is. stands_of chain image is (closed-is-sound chain.blocks SnapA image.snap_a closed_a) (closed-is-sound chain.blocks SnapB image.snap_b closed_b),
)

pub stands_without_snapshots : StandsWithoutSnapshots
stands_without_snapshots chain image none = stands_by_its_log chain image (ap has_open_gate none.0) (ap has_open_gate none.1)

pub stands_with_sound_area : StandsWithSoundArea
stands_with_sound_area chain image Log bytes stands no_log sound = absurd (no_log refl)
stands_with_sound_area chain image SnapA bytes stands no_log sound =
    stands_of chain (with_content SnapA bytes image) (log_there chain image stands) sound stands.snap_b
stands_with_sound_area chain image SnapB bytes stands no_log sound =
    stands_of chain (with_content SnapB bytes image) (log_there chain image stands) stands.snap_a sound

pub stands_with_closed_area : StandsWithClosedArea
stands_with_closed_area chain image area bytes stands no_log closed =
    stands_with_sound_area chain image area bytes stands no_log (closed-is-sound chain.blocks area bytes closed)

pub stands_with_snapshot : StandsWithSnapshot
stands_with_snapshot chain image bytes s stands holds of_blocks =
    stands_with_sound_area chain image (area_of s.number) bytes stands (none-in-the-log s.number) (held-is-sound chain.blocks bytes s holds of_blocks)

log_says : (chain : Chain) (bytes other : List ℕ) → IsLogOf chain bytes → log_of other ≡ log_of bytes → IsLogOf chain other
log_says chain bytes other is same = record { log = is.log; is_log = same ∙ is.is_log; keeps = is.keeps; joined = is.joined }

pub stands_where_it_says_the_same : StandsWhereItSaysTheSame
stands_where_it_says_the_same chain one other stands says same_a same_b =
    stands_of chain other (log_says chain one.log other.log (log_there chain one stands) says)
    (subst (IsSoundArea chain.blocks SnapA) (sym same_a) stands.snap_a) (subst (IsSoundArea chain.blocks SnapB) (sym same_b) stands.snap_b)

-- ---- What it keeps

same_log : (one other : LogContent) → Some one ≡ Some other → one ≡ other
same_log one other same = (cc)

same_chain : (one other : Chain) → Keeps one ≡ Keeps other → one ≡ other
same_chain one other same = (cc)

-- two chains of one log are the same
one_chain : (one other : Chain) (bytes : List ℕ) → IsLogOf one bytes → IsLogOf other bytes → one ≡ other
one_chain one other bytes is also =
    sym is.keeps ∙ ap chain_of (same_log is.log also.log (sym is.is_log ∙ also.is_log)) ∙ also.keeps

pub sound_stands_for_the_same : SoundStandsForTheSame
sound_stands_for_the_same chain one other stands (kept, sound) says =
    subst (λ (c : Chain). StandsFor c other)
    (one_chain kept chain other.log (log_there kept other sound) (log_says chain one.log other.log (log_there chain one stands) says)) sound

empty_is_none : (bytes : List ℕ) (log : LogContent) → log_of bytes ≡ Some log → (length bytes == 0) ≡ false
unfolding log_of
empty_is_none [] log is = absurd (cc)
empty_is_none (a ∷ rest) log is = ne_eqb (length (a ∷ rest)) 0 (λ none. absurd (omega (arith, none)))

keeps_its_log : (chain : Chain) (image : Image) → IsLogOf chain image.log → store_of image ≡ Keeps chain
unfolding store_of
keeps_its_log chain image is =
    ap (λ (b : Bool). if b then NoLog else store_of_log (log_of image.log)) (empty_is_none image.log is.log is.is_log)
    ∙ ap store_of_log is.is_log ∙ ap Keeps is.keeps

pub stands_for_what_it_keeps : StandsForWhatItKeeps
stands_for_what_it_keeps chain image = (
  λ stands. ((chain, stands), keeps_its_log chain image (log_there chain image stands)),
  λ sound. by_sound sound.0 sound.1,
)
  where
    by_sound : IsSound image → store_of image ≡ Keeps chain → StandsFor chain image
    by_sound (kept, stands) keeps =
        subst (λ (c : Chain). StandsFor c image) (same_chain kept chain (sym (keeps_its_log kept image (log_there kept image stands)) ∙ keeps)) stands

two_areas : SnapA ≡ SnapB → ⊥
two_areas is = absurd (cc)

pub numbers_differ : NumbersDiffer
numbers_differ chain image one other stands holds also same =
    two_areas (sym (sound-holds-its-own chain.blocks SnapA image.snap_a one stands.snap_a holds).here ∙ ap area_of same
    ∙ (sound-holds-its-own chain.blocks SnapB image.snap_b other stands.snap_b also).here)

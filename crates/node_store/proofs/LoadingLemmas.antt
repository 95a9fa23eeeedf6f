-- Which snapshot an opening loads, and what it reads there.
use Rattle.std.proofs.Common.{◌≡◌, ℕ, ◌+◌, ◌<◌, ◌≤◌, ◌^◌, Bool, true, false, cond, List, ◌++◌, length, Option, Some, None, Ok, Err, refl, sym, ap, ◌∙◌, subst, inl, inr, arith}
use Rattle.std.specs.Prelude.{IfSome, IsSomeAnd, OnOk, Result, nat_lt, slice_index_or}
use Rattle.std.specs.List.{All}
use Rattle.std.proofs.lemmas.List.{length-append}
use Rattle.std.proofs.lemmas.Option.{same_Some, slice_get_within}
use Rattle.std.proofs.lemmas.Slice.Eq.{bytes_eq-Decides}
use Rattle.std.proofs.lemmas.Nat.{from_le_bytes-to_le_bytes_4}
use Rattle.outside.specs.declared.disk.Area.{Area}
use Rattle.outside.specs.declared.disk.Area.TheVariants.{Log, SnapA, SnapB}
use Rattle.outside.specs.declared.disk.Damage.{Damage}
use Rattle.outside.specs.declared.disk.ReadStop.{ReadStop}
use Rattle.outside.specs.declared.disk.ReadStop.TheVariants.{Damaged}
use Rattle.outside.specs.Image.{Image, content, with_content}
use Rattle.chain_defs.specs.Schema.{OutPoint, Block}
use Rattle.chain_defs.specs.Kept.{block_at, block_hash}
use Rattle.chain_defs.specs.Branch.{distance}
use Rattle.chain_defs.specs.Tip.{tip_place}
use Rattle.chain_defs.specs.Ext.{count_at}
use Rattle.chain_defs.specs.Row.{Row}
use Rattle.cell_state.specs.State.{StateValue, rows}
use Rattle.chain_tree.specs.declared.entry.Entry.{Entry}
use Rattle.chain_tree.specs.Blocks.{IndexesBlocks}
use Rattle.chain_defs.proofs.KeptLaws.{slice_get-below}
use Rattle.chain_tree.proofs.BlockLemmas.{len-same, described}
use Rattle.chain_defs.specs.FitLaws.{AreCanonical}
use Rattle.verdict_defs.specs.Chain.{Chain}
use Rattle.cell_state.specs.Moves.{AreRowsOfBranch}
use Rattle.node_store.specs.ReorgLaws.{IsKeptRow}
use Rattle.node_store.proofs.HeldLaws.{snapshot-rows-are-kept}
use Rattle.disk_defs.specs.Snapshot.{Snapshot, body_bytes, snapshot_bytes, has_open_gate, Holds, IsOfBlocks, IsSoundArea, HoldsSound}
use Rattle.disk_defs.proofs.AreaLaws.{sound-holds-its-own, sound-has-its-number, tells-its-rows}
use Rattle.disk_defs.proofs.Fields.{head_of, head-length, rows_bytes, in-parts}
use Rattle.snapshots.specs.Reading.{AnswersNumber, AnswersSnapshot, IsRead, IsDamaged, IsOfTree, has_hash, has_tip, row_count, AreWithin}
use Rattle.snapshots.specs.Rows.{IsHeld}
use Rattle.store_defs.specs.Store.{IsJoined}
use Rattle.store_defs.specs.SnapshotLaws.{HasSoundAreas}
use Rattle.node_store.specs.Snapshot.{number_in, area_with, newest, tip_in}
use Rattle.node_store.specs.Opening.{IsOfArea, IsOfSnapshot, HoldsOneOf, HasNewestOf, HasNumber, HaveNumbers}
use Rattle.node_store.specs.OpeningSteps.{distance_to, moves_by}

none-some : (area : Area) → None ≡ Some area → ⊥
none-some area is = cc

true-false : true ≡ false → ⊥
true-false is = cc

-- ---- The number in an area

-- the number of a sound area is not damaged
number-sound : (kept : List Block) (area : Area) (bytes : List ℕ) (damage : Damage) → IsSoundArea kept area bytes → AnswersNumber area bytes (Err (Damaged damage)) → ⊥
number-sound kept area bytes damage sound told =
    let long = (sound-has-its-number kept area bytes sound told.0).1 in
    let short = told.1 in
    absurd (omega (arith, long, short))

pub number-undamaged : (kept : List Block) (area : Area) (reads mid : Option Image) (now : Image) (stop : ReadStop) (damage : Damage) → mid ≡ reads → reads ≡ Some now
    → IsSoundArea kept area (content area now) → IfSome mid (λ image. AnswersNumber area (content area image) (Err stop)) → stop ≡ Damaged damage → ⊥
number-undamaged kept area reads mid now stop damage same told sound tells is =
    let here : AnswersNumber area (content area now) (Err stop) = subst (λ (o : Option Image). IfSome o (λ image. AnswersNumber area (content area image) (Err stop))) (same ∙ told) tells in
    number-sound kept area (content area now) damage sound (subst (λ (s : ReadStop). AnswersNumber area (content area now) (Err s)) is here)

-- an area that is too short for a number holds no snapshot
long-enough : (bytes : List ℕ) (s : Snapshot) → Holds bytes s → 49 ≤ length bytes
long-enough bytes s holds =
    omega (
      arith,
      ap length (holds.parts ∙ in-parts s holds.after),
      head-length s.number s.tip s.hash (length s.rows) holds.form.hash,
      length-append (head_of s) (rows_bytes s.rows ++ holds.after),
    )

pub number-damaged : (area : Area) (entries : List Entry) (reads mid : Option Image) (now : Image) (stop : ReadStop) (damage : Damage) → mid ≡ reads → reads ≡ Some now
    → IfSome mid (λ image. AnswersNumber area (content area image) (Err stop)) → stop ≡ Damaged damage → IsOfArea area entries now damage
number-damaged area entries reads mid now stop damage same told tells is = from
    (subst (λ (s : ReadStop). AnswersNumber area (content area now) (Err s)) is
    (subst (λ (o : Option Image). IfSome o (λ image. AnswersNumber area (content area image) (Err stop))) (same ∙ told) tells))
  where
    from : AnswersNumber area (content area now) (Err (Damaged damage)) → IsOfArea area entries now damage
    from told = (
      record { gate = told.0; none = λ s holds of. absurd (omega (arith, long-enough (content area now) s holds, told.1)) },
      told.2,
    )

-- a number was read after each open gate
has-number : (area : Area) (bytes : List ℕ) (found : Option ℕ) → AnswersNumber area bytes (Ok found) → HasNumber bytes
has-number area bytes None closed = λ gate. absurd (true-false (sym gate ∙ closed))
has-number area bytes (Some number) told = λ gate. told.1

pub have-numbers : (reads mid : Option Image) (a b : Option ℕ) → mid ≡ reads → IfSome reads (λ image. AnswersNumber SnapA (content SnapA image) (Ok a))
    → IfSome mid (λ image. AnswersNumber SnapB (content SnapB image) (Ok b)) → IfSome reads HaveNumbers
have-numbers None mid a b same first second = tt
have-numbers (Some now) mid a b same first second = (
  has-number SnapA now.snap_a a first,
  has-number SnapB now.snap_b b (subst (λ (o : Option Image). IfSome o (λ image. AnswersNumber SnapB (content SnapB image) (Ok b))) same second),
)

pub at-told : (P : Image → Type 0) (reads : Option Image) (now : Image) → reads ≡ Some now → IfSome reads P → P now
at-told P reads now told has = subst (λ (o : Option Image). IfSome o P) told has

-- ---- The area that is loaded

-- An area of snapshots that is the newest: its gate is open, and it is sound where both are.
record IsNewest (now : Image) (area : Area) : Type 0 where
  gate : has_open_gate (content area now) ≡ true
  sound : (kept : List Block) → HasSoundAreas kept now → IsSoundArea kept area (content area now)

gate-of : (bytes : List ℕ) (number : ℕ) → number_in bytes ≡ Some number → has_open_gate bytes ≡ true
gate-of bytes number is = by (has_open_gate bytes) is
  where
    by : (b : Bool) → cond b (Some (count_at bytes 1)) None ≡ Some number → b ≡ true
    by true some = refl
    by false some = absurd (cc)

newest-a : (now : Image) (number : ℕ) → number_in now.snap_a ≡ Some number → IsNewest now SnapA
newest-a now number is = record { gate = gate-of now.snap_a number is; sound = λ kept both. both.snap_a }

newest-b : (now : Image) (number : ℕ) → number_in now.snap_b ≡ Some number → IsNewest now SnapB
newest-b now number is = record { gate = gate-of now.snap_b number is; sound = λ kept both. both.snap_b }

is-newest : (now : Image) (area : Area) → newest now ≡ Some area → IsNewest now area
is-newest now area is = by (number_in now.snap_a) (number_in now.snap_b) refl refl is
  where
    at-a : (number : ℕ) → number_in now.snap_a ≡ Some number → Some SnapA ≡ Some area → IsNewest now area
    at-a number first same = subst (IsNewest now) (same_Some SnapA area same) (newest-a now number first)

    at-b : (number : ℕ) → number_in now.snap_b ≡ Some number → Some SnapB ≡ Some area → IsNewest now area
    at-b number second same = subst (IsNewest now) (same_Some SnapB area same) (newest-b now number second)

    either : (less : Bool) (a b : ℕ) → number_in now.snap_a ≡ Some a → number_in now.snap_b ≡ Some b → cond less (Some SnapB) (Some SnapA) ≡ Some area → IsNewest now area
    either true a b first second same = at-b b second same
    either false a b first second same = at-a a first same

    by : (a b : Option ℕ) → number_in now.snap_a ≡ a → number_in now.snap_b ≡ b → area_with a b ≡ Some area → IsNewest now area
    by None None first second none = absurd (cc)
    by (Some a) None first second same = at-a a first same
    by None (Some b) first second same = at-b b second same
    by (Some a) (Some b) first second same = either (nat_lt a b) a b first second same

pub newest-at : (reads : Option Image) (now : Image) (found : Option Area) (area : Area) → reads ≡ Some now → IfSome reads (λ image. found ≡ newest image)
    → found ≡ Some area → newest now ≡ Some area
newest-at reads now found area told is at = sym (subst (λ (o : Option Image). IfSome o (λ image. found ≡ newest image)) told is) ∙ at

-- it is an area of snapshots
pub of-newest : (now : Image) (area : Area) (entries : List Entry) (damage : Damage) → newest now ≡ Some area → IsOfArea area entries now damage → IsOfSnapshot entries now damage
of-newest now area entries damage is of = by (number_in now.snap_a) (number_in now.snap_b) is
  where
    at-a : Some SnapA ≡ Some area → IsOfSnapshot entries now damage
    at-a same = inl (subst (λ (x : Area). IsOfArea x entries now damage) (sym (same_Some SnapA area same)) of)

    at-b : Some SnapB ≡ Some area → IsOfSnapshot entries now damage
    at-b same = inr (subst (λ (x : Area). IsOfArea x entries now damage) (sym (same_Some SnapB area same)) of)

    either : (less : Bool) → cond less (Some SnapB) (Some SnapA) ≡ Some area → IsOfSnapshot entries now damage
    either true same = at-b same
    either false same = at-a same

    by : (a b : Option ℕ) → area_with a b ≡ Some area → IsOfSnapshot entries now damage
    by None None none = absurd (cc)
    by (Some a) None same = at-a same
    by None (Some b) same = at-b same
    by (Some a) (Some b) same = either (nat_lt a b) same

-- which does not hang on LOG
pub newest-still : (entries : List Entry) (now : Image) (bytes : List ℕ) → HasNewestOf entries (with_content Log bytes now) → HasNewestOf entries now
newest-still entries now bytes has area is = by (number_in now.snap_a) (number_in now.snap_b) is (has area is)
  where
    at-a : Some SnapA ≡ Some area → HoldsOneOf entries (content area (with_content Log bytes now)) → HoldsOneOf entries (content area now)
    at-a same holds = subst (λ (x : Area). HoldsOneOf entries (content x now)) (same_Some SnapA area same)
        (subst (λ (x : Area). HoldsOneOf entries (content x (with_content Log bytes now))) (sym (same_Some SnapA area same)) holds)

    at-b : Some SnapB ≡ Some area → HoldsOneOf entries (content area (with_content Log bytes now)) → HoldsOneOf entries (content area now)
    at-b same holds = subst (λ (x : Area). HoldsOneOf entries (content x now)) (same_Some SnapB area same)
        (subst (λ (x : Area). HoldsOneOf entries (content x (with_content Log bytes now))) (sym (same_Some SnapB area same)) holds)

    either : (less : Bool) → cond less (Some SnapB) (Some SnapA) ≡ Some area → HoldsOneOf entries (content area (with_content Log bytes now)) → HoldsOneOf entries (content area now)
    either true same = at-b same
    either false same = at-a same

    by : (a b : Option ℕ) → area_with a b ≡ Some area → HoldsOneOf entries (content area (with_content Log bytes now)) → HoldsOneOf entries (content area now)
    by None None none = absurd (cc)
    by (Some a) None same = at-a same
    by None (Some b) same = at-b same
    by (Some a) (Some b) same = either (nat_lt a b) same

pub newest-none : (entries : List Entry) (reads : Option Image) (now : Image) (found : Option Area) → reads ≡ Some now → IfSome reads (λ image. found ≡ newest image)
    → found ≡ None → HasNewestOf entries now
newest-none entries reads now found told is none area some =
    let at : found ≡ newest now = subst (λ (o : Option Image). IfSome o (λ image. found ≡ newest image)) told is in
    absurd (none-some area (sym none ∙ at ∙ some))

pub whole-also : {T E : Type 0} {P Q : Type 0} (result : Result T E) → (P → Q) → OnOk result P → OnOk result Q
whole-also (Ok value) also here = also here
whole-also (Err stop) also here = tt

-- the area that was found is the newest
pub newest-found : (entries : List Entry) (now : Image) (area : Area) → newest now ≡ Some area → HoldsOneOf entries (content area now) → HasNewestOf entries now
newest-found entries now area is holds other same =
    subst (λ (x : Area). HoldsOneOf entries (content x now)) (same_Some area other (sym is ∙ same)) holds

-- ---- What is read there

-- The rows of the snapshot that a sound area holds are those of its tip's branch.
rows-of-sound : (kept : List Block) (area : Area) (entries : List Entry) (bytes : List ℕ) (before after number tip : ℕ) (state : StateValue) (s : Snapshot)
    → IsSoundArea kept area bytes → IsRead entries bytes before after number tip state s → AreRowsOfBranch kept tip (rows state)
rows-of-sound kept area entries bytes before after number tip state s sound is o =
    let belongs = sound-holds-its-own kept area bytes s sound is.holds in
    subst (λ (n : ℕ). AreRowsOfBranch kept n (rows state)) (sym is.tip_is) (tells-its-rows kept s (rows state) belongs.of_blocks is.rows) o

pub rows-loaded : (kept : List Block) (area : Area) (entries : List Entry) (reads : Option Image) (now : Image) (before after number tip : ℕ) (state : StateValue)
    → reads ≡ Some now → newest now ≡ Some area → HasSoundAreas kept now
    → IfSome reads (λ image. AnswersSnapshot area entries (content area image) before after (Ok (Some (number, tip, state)))) → AreRowsOfBranch kept tip (rows state)
rows-loaded kept area entries reads now before after number tip state told is both tells = from here
  where
    here : AnswersSnapshot area entries (content area now) before after (Ok (Some (number, tip, state)))
    here = subst (λ (o : Option Image). IfSome o (λ image. AnswersSnapshot area entries (content area image) before after (Ok (Some (number, tip, state))))) told tells

    from : AnswersSnapshot area entries (content area now) before after (Ok (Some (number, tip, state))) → AreRowsOfBranch kept tip (rows state)
    from (s, read) = rows-of-sound kept area entries (content area now) before after number tip state s ((is-newest now area is).sound kept both) read

-- its gate is not closed
pub never-closed : (area : Area) (entries : List Entry) (reads : Option Image) (now : Image) (before after : ℕ) → reads ≡ Some now → newest now ≡ Some area
    → IfSome reads (λ image. AnswersSnapshot area entries (content area image) before after (Ok None)) → ⊥
never-closed area entries reads now before after told is tells =
    let here : AnswersSnapshot area entries (content area now) before after (Ok None) =
    subst (λ (o : Option Image). IfSome o (λ image. AnswersSnapshot area entries (content area image) before after (Ok None))) told tells in
    true-false (sym (is-newest now area is).gate ∙ here.0)

-- ---- A sound area is not damaged

held-all : (kept : ℕ) (list : List (OutPoint × Row)) → All (λ (it : OutPoint × Row). IsKeptRow kept it.1) list → All (IsHeld kept) list
held-all kept list all k d within =
    let is : IsKeptRow kept (slice_index_or list k d).1 = all k d within in record { block = is.block; occupied = is.occupied }

has-its-tip : (kept : List Block) (entries : List Entry) (tip : ℕ) (hash : List ℕ) → IndexesBlocks kept entries
    → IsSomeAnd (block_at kept tip) (λ b. block_hash b ≡ hash) → has_tip entries tip hash ≡ true
has-its-tip kept entries tip hash indexed is = by (block_at kept tip) refl is
  where
    by : (found : Option Block) → block_at kept tip ≡ found → IsSomeAnd found (λ b. block_hash b ≡ hash) → has_tip entries tip hash ≡ true
    by None there none = absurd none
    by (Some b) there same =
        let within : tip < length entries = subst (λ (n : ℕ). tip < n) (sym (len-same kept entries indexed)) (slice_get_within kept tip b there) in
        let found = slice_get-below entries tip within in
        let at = described kept entries tip found.0 indexed.each found.1 in
        let block : at.block ≡ b = same_Some at.block b (sym at.there ∙ there) in
        let hashes : found.0.hash ≡ hash = at.is.hash ∙ ap block_hash block ∙ same in
        ap (λ (e : Option Entry). has_hash e hash) found.1 ∙ (bytes_eq-Decides found.0.hash hash).1 hashes

of-tree : (chain : Chain) (entries : List Entry) (s : Snapshot) → IndexesBlocks chain.blocks entries → IsJoined chain → AreCanonical chain.blocks
    → IsOfBlocks chain.blocks s → IsOfTree entries s
of-tree chain entries s indexed joined canonical of = record {
  tip = has-its-tip chain.blocks entries s.tip s.hash indexed of.tip;
  rows = subst (λ (n : ℕ). All (IsHeld n) s.rows) (sym (len-same chain.blocks entries indexed))
      (held-all (length chain.blocks) s.rows (snapshot-rows-are-kept chain s joined canonical of));
}

pub never-damaged : (chain : Chain) (area : Area) (entries : List Entry) (reads : Option Image) (now : Image) (before after : ℕ) (result : Result (Option (ℕ × ℕ × StateValue)) ReadStop)
    (damage : Damage) → IndexesBlocks chain.blocks entries → AreCanonical chain.blocks → IsJoined chain
    → reads ≡ Some now → newest now ≡ Some area → HasSoundAreas chain.blocks now
    → IfSome reads (λ image. AnswersSnapshot area entries (content area image) before after result) → result ≡ Err (Damaged damage) → ⊥
never-damaged chain area entries reads now before after result damage indexed canonical joined told is both tells at =
    from here.0 ((is-newest now area is).sound chain.blocks both (is-newest now area is).gate)
  where
    here : AnswersSnapshot area entries (content area now) before after (Err (Damaged damage))
    here = subst (AnswersSnapshot area entries (content area now) before after) at
        (subst (λ (o : Option Image). IfSome o (λ image. AnswersSnapshot area entries (content area image) before after result)) told tells)

    from : IsDamaged entries (content area now) → (s : Snapshot) × HoldsSound chain.blocks area (content area now) s → ⊥
    from damaged (s, sound) = damaged.none s sound.holds (of-tree chain entries s indexed joined canonical sound.of_blocks)

-- damage that was read there
pub snapshot-damaged : (area : Area) (entries kept : List Entry) (reads : Option Image) (now : Image) (before after : ℕ) (result : Result (Option (ℕ × ℕ × StateValue)) ReadStop)
    (damage : Damage) → entries ≡ kept → reads ≡ Some now → newest now ≡ Some area
    → IfSome reads (λ image. AnswersSnapshot area entries (content area image) before after result) → result ≡ Err (Damaged damage) → IsOfSnapshot kept now damage
snapshot-damaged area entries kept reads now before after result damage same told is tells at =
    subst (λ (es : List Entry). IsOfSnapshot es now damage) same (of-newest now area entries damage is (here.0, here.1))
  where
    here : AnswersSnapshot area entries (content area now) before after (Err (Damaged damage))
    here = subst (AnswersSnapshot area entries (content area now) before after) at
        (subst (λ (o : Option Image). IfSome o (λ image. AnswersSnapshot area entries (content area image) before after result)) told tells)

-- ---- Steps

-- the place of the tip stands after the number
tip-held : (s : Snapshot) (after : List ℕ) → s.number < 2 ^ 32 → s.tip < 2 ^ 32 → tip_in (snapshot_bytes s ++ after) ≡ s.tip
unfolding body_bytes
tip-held s after fits small = from_le_bytes-to_le_bytes_4 s.tip small

tip-of : (bytes : List ℕ) (s : Snapshot) → Holds bytes s → tip_in bytes ≡ s.tip
tip-of bytes s holds = ap tip_in holds.parts ∙ tip-held s holds.after holds.form.number holds.form.tip

pub led-from : (kept : List Block) (area : Area) (entries : List Entry) (reads : Option Image) (now : Image) (before after number tip : ℕ) (state : StateValue)
    → reads ≡ Some now → IfSome reads (λ image. AnswersSnapshot area entries (content area image) before after (Ok (Some (number, tip, state))))
    → after + distance_to kept tip (tip_place kept) ≡ before + moves_by kept now (Some area)
led-from kept area entries reads now before after number tip state told tells = from here
  where
    here : AnswersSnapshot area entries (content area now) before after (Ok (Some (number, tip, state)))
    here = subst (λ (o : Option Image). IfSome o (λ image. AnswersSnapshot area entries (content area image) before after (Ok (Some (number, tip, state))))) told tells

    from : AnswersSnapshot area entries (content area now) before after (Ok (Some (number, tip, state)))
        → after + distance_to kept tip (tip_place kept) ≡ before + moves_by kept now (Some area)
    from (s, read) =
        let same : tip ≡ tip_in (content area now) = read.tip_is ∙ sym (tip-of (content area now) s read.holds) in
        let each : after ≡ before + row_count (content area now) = read.steps ∙ ap (λ (n : ℕ). before + n) (sym read.counted) in
        subst (λ (n : ℕ). after + distance_to kept n (tip_place kept) ≡ before + moves_by kept now (Some area)) (sym same) (omega (arith, each))

-- the way from there to the tip
pub led-on : (kept : List Block) (from tip : ℕ) (place : Option ℕ) (before mid after moves : ℕ) → place ≡ Some tip
    → mid + distance_to kept from place ≡ before + moves → after ≡ mid + distance kept from tip → after ≡ before + moves
led-on kept from tip place before mid after moves at led moved = omega (arith, led, moved, ap (distance_to kept from) at)

-- ---- The answer of a reading

module _ (kept : List Block) (area : Area) (entries : List Entry) (reads : Option Image) (before after : ℕ) (found : Option (ℕ × ℕ × StateValue)) where
  abbrev Tells : Option (ℕ × ℕ × StateValue) → Type 0
  Tells answer = IfSome reads (λ image. AnswersSnapshot area entries (content area image) before after (Ok answer))

  pub loaded-within : (it : ℕ × ℕ × StateValue) → found ≡ Some it → IndexesBlocks kept entries → IfSome found (λ it. AreWithin entries it.1 it.2) → it.1 < length kept
  loaded-within it is indexed within =
      let here : AreWithin entries it.1 it.2 = subst (λ (o : Option (ℕ × ℕ × StateValue)). IfSome o (λ it. AreWithin entries it.1 it.2)) is within in
      omega (arith, here.tip_is, len-same kept entries indexed)

  pub loaded-cells : (it : ℕ × ℕ × StateValue) → found ≡ Some it → Tells found → (now : Image) → reads ≡ Some now → newest now ≡ Some area → HasSoundAreas kept now
      → AreRowsOfBranch kept it.1 (rows it.2)
  loaded-cells (number, tip, state) is tells now told newest_is both =
      rows-loaded kept area entries reads now before after number tip state told newest_is both (subst Tells is tells)

  pub loaded-led : (it : ℕ × ℕ × StateValue) → found ≡ Some it → Tells found → (now : Image) → reads ≡ Some now
      → after + distance_to kept it.1 (tip_place kept) ≡ before + moves_by kept now (Some area)
  loaded-led (number, tip, state) is tells now told = led-from kept area entries reads now before after number tip state told (subst Tells is tells)

  pub loaded-whole : (it : ℕ × ℕ × StateValue) → found ≡ Some it → Tells found → (now : Image) → reads ≡ Some now → HoldsOneOf entries (content area now)
  loaded-whole (number, tip, state) is tells now told = from
      (subst (λ (o : Option Image). IfSome o (λ image. AnswersSnapshot area entries (content area image) before after (Ok (Some (number, tip, state))))) told (subst Tells is tells))
    where
      from : AnswersSnapshot area entries (content area now) before after (Ok (Some (number, tip, state))) → HoldsOneOf entries (content area now)
      from (s, read) = (s, read.holds, read.of_tree)

  pub loaded-none : found ≡ None → Tells found → (now : Image) → reads ≡ Some now → newest now ≡ Some area → ⊥
  loaded-none is tells now told newest_is = never-closed area entries reads now before after told newest_is (subst Tells is tells)

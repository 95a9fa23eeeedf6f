-- What was read and answered, line by line, and at each end.
use Rattle.std.proofs.Common.{◌≡◌, inl, inr, ℕ, zero, suc, ◌+◌, ◌<◌, List, [], ◌∷◌, ◌++◌, length, refl, ap, sym, ◌∙◌, subst, arith, append_assoc, append-nil, length-append}
use Rattle.std.specs.Prelude.{Option, Some, Result, Ok, Err, IfOk, IsSome}
use Rattle.std.specs.Io.KnownBytes.{IsAtEnd}
use Rattle.outside.specs.Image.{Image}
use Rattle.outside.specs.Streams.{Gives, Takes}
use Rattle.outside.proofs.Endings.{after_still, counts-as, no_fault}
use Rattle.outside.proofs.Streams.{gives_none, gives_more, takes_none, takes_more}
use Rattle.verdict_defs.specs.Chain.{Chain}
use Rattle.report_defs.specs.declared.status.Status.{Status}
use Rattle.report_defs.specs.declared.status.Status.TheVariants.{Done, BadSize, ExtraInput, InputFault, SinkFault, DiskFault, NoMemory, NotAStore}
use Rattle.report_defs.specs.Status.{IsOneOf}
use Rattle.report_defs.specs.Report.{text_of}
use Rattle.report_defs.specs.Promise.{IsPrefix}
use Rattle.run_text.specs.Items.{IsReadingStop}
use Rattle.run_text.specs.Output.{IsStop, IsWritingStop, IsPartOf, Transfers}
use Rattle.run_text.specs.Store.{OnlyReads, opening_stops}
use Rattle.node_store.specs.Node.{NodeValue, IsSoundWhereTold}
use Rattle.run_store.specs.Keeping.{KeepsNode}
use Rattle.run_store.proofs.KeepLemmas.{keeps_sound}
use Rattle.run_text.proofs.StoreLemmas.{by_disk_or_memory}
use Rattle.run_text.proofs.Reading.{left_nothing}
use Rattle.run_text.proofs.Statuses.{reading_stops, writing_stops, disk_stops, is_early, not_early}
use Rattle.ask_defs.specs.Lines.{line_limit, lines_of, has_no_feed, IsLine, AreLines, spelled}
use Rattle.ask_defs.specs.Answers.{answer}
use Rattle.ask_defs.specs.Promise.{answers, line_count, report_of_lines, ask_statuses}
use Rattle.run_ask.specs.Reading.{IsBegun, EndsAfter}
use Rattle.run_text.proofs.Tables.{lacks, among}
use Rattle.run_ask.specs.Asking.{line_stops, IsCutShort, IsAnswered, IsAskedNext, IsUnread, IsGivenAs, AreAnswered}
use Rattle.transaction_index.specs.declared.row.Row.{Row}
use Rattle.run_ask.specs.Finding.{HoldsCommitted}
use Rattle.run_ask.specs.declared.asking.Going.{Going}
use Rattle.run_ask.specs.declared.asking.Going.TheVariants.{On, AtEnd, TooLong}
use Rattle.run_ask.proofs.LineLemmas.{spelled_push, lines_push, line_first, line_last, line_begun, line_some, HoldsNoMore, AreShort, unbroken_holds_no_more, ended_holds_no_more, byte_holds_no_more, short_unbroken, short_ended, short_byte}
use Rattle.run_ask.proofs.ReportLemmas.{answers_push, line_answered, long_ends, HasAnswered, lines_given, answers_append, stopped_text, ended_text, in_order}

nothing_asked : (chain : Chain) → [] ≡ answers chain (lines_of [])
unfolding lines_of
nothing_asked chain = refl

-- ---- One line

-- the sink failed in its answer
pub line_cut : (text : List ℕ) (status : Status) (taken : List ℕ) → status ≡ SinkFault → IsPartOf text taken → IsCutShort text status taken
line_cut text status taken sink part = record {
  stop = subst IsWritingStop (sym sink) tt;
  part = part.prefix;
  silent = λ early. absurd (not_early status sink early);
}

pub sink_no_disk : (status : Status) → status ≡ SinkFault → status ≡ DiskFault → ⊥
sink_no_disk status sink disk = absurd (cc (sym sink ∙ disk))

-- it was not found
pub line_unfound : (text : List ℕ) (status : Status) → IsOneOf opening_stops status → (status ≡ NotAStore → ⊥) → IsCutShort text status []
line_unfound text status one there = record {
  stop = disk_stops status (by_disk_or_memory status one there);
  part = (text, refl);
  silent = λ _. refl;
}

-- the reading was stopped
pub reading_stop : (status : Status) → IsReadingStop status → IsOneOf (InputFault ∷ line_stops) status
reading_stop InputFault stop = inl refl
reading_stop NoMemory stop = inr (inr (inr (inr (inl refl))))
reading_stop _ stop = absurd stop

-- no line that was read is stopped by reading
pub no_input_stop : {V : Type 0} (result : Result V Status) → ((status : Status) → result ≡ Err status → IsOneOf line_stops status) → result ≡ Err InputFault → ⊥
no_input_stop result stop is = lacks line_stops InputFault refl InputFault (stop InputFault is) refl

-- a line with its line feed
pub line_asked : (sound : Type 0) (chain : Chain) (left : Option (List ℕ)) (result : Result Going Status) (line given taken : List ℕ) → IsLine line → given ≡ line ++ 10 ∷ []
    → IfOk result (λ after. after ≡ On) → (sound → IsAnswered (answer chain line) result taken) → IsAskedNext sound chain left result given taken
line_asked sound chain left (Ok going) line given taken is same goes says =
    subst (λ (after : Going). IsAskedNext sound chain left (Ok after) given taken) (sym goes) (line, is, same, says)
line_asked sound chain left (Err status) line given taken is same goes says = inr (record { line = line; is_line = is; given_as = inl same; cut = says })

-- the last
pub last_asked : (sound : Type 0) (chain : Chain) (left : Option (List ℕ)) (result : Result Going Status) (line given taken : List ℕ) → EndsAfter left line
    → 0 < length line → given ≡ line → IfOk result (λ after. after ≡ AtEnd) → (sound → IsAnswered (answer chain line) result taken)
    → IsAskedNext sound chain left result given taken
last_asked sound chain left (Ok going) line given taken is some same goes says =
    subst (λ (after : Going). IsAskedNext sound chain left (Ok after) given taken) (sym goes)
    (subst IsLine (sym same) is.is_line, is.to_end, λ sound. says sound ∙ one_answer ∙ ap (λ (l : List ℕ). answers chain (lines_of l)) (sym same))
  where
    one_answer : answer chain line ≡ answers chain (lines_of line)
    one_answer = sym (append-nil (answer chain line)) ∙ ap (answers chain) (sym (line_last line is.is_line.unbroken some))
last_asked sound chain left (Err status) line given taken is some same goes says =
    inr (record { line = line; is_line = is.is_line; given_as = inr (same, some, is.to_end); cut = says })

-- nothing
pub none_asked : (sound : Type 0) (chain : Chain) (left : Option (List ℕ)) (given : List ℕ) → given ≡ [] → IsAtEnd left → IsAskedNext sound chain left (Ok AtEnd) given []
none_asked sound chain left given none at_end =
    subst (λ (l : List ℕ). IsAskedNext sound chain left (Ok AtEnd) l []) (sym none) (record { unbroken = refl; short = omega arith }, at_end, λ _. nothing_asked chain)

pub line_count-is : line_count ≡ 18446744073709551615
unfolding line_count
line_count-is = refl

-- ---- All lines

-- Whole lines were given, and over what is sound their answers taken.
pub record HaveAsked (sound : Type 0) (chain : Chain) (left_old left_new taken_old taken_new : Option (List ℕ)) (more : ℕ) : Type 0 where
  pub lines : List (List ℕ)
  pub said : List ℕ
  pub all : AreLines lines
  pub gives : Gives left_old left_new (spelled lines)
  pub takes : Takes taken_old taken_new said
  pub counted : line_count ≡ length lines + more
  pub text : sound → said ≡ answers chain lines

pub asked_none : (sound : Type 0) (chain : Chain) (left taken : Option (List ℕ)) (more : ℕ) → line_count ≡ more → HaveAsked sound chain left left taken taken more
asked_none sound chain left taken more counted = record {
  lines = [];
  said = [];
  all = tt;
  gives = gives_none left;
  takes = takes_none taken;
  counted = omega (arith, counted);
  text = λ _. refl;
}

-- ---- What is reported of what follows whole lines

-- the last line, or nothing
last_answered : (chain : Chain) (more : ℕ) (given taken : List ℕ) → (0 < length given → 0 < more) → IsLine given → taken ≡ answers chain (lines_of given)
    → (text_of (report_of_lines chain (lines_of given) more) ≡ taken) × ((report_of_lines chain (lines_of given) more).status ≡ Done)
unfolding lines_of
last_answered chain more [] taken some line is = (sym is, refl)
last_answered chain zero (byte ∷ given) taken some line is = absurd (omega (arith, some (omega arith)))
last_answered chain (suc more) (byte ∷ given) taken some line is =
    let lines = line_last (byte ∷ given) line.unbroken (omega arith) in
    let one = line_answered chain more (byte ∷ given) [] line.short in
    subst (λ (ls : List (List ℕ)). (text_of (report_of_lines chain ls (suc more)) ≡ taken) × ((report_of_lines chain ls (suc more)).status ≡ Done)) (sym lines)
    (one.0 ∙ sym (is ∙ ap (answers chain) lines), one.1)

-- a line that is too long
long_reported : (chain : Chain) (more : ℕ) (given later taken : List ℕ) → 0 < more → has_no_feed given → length given ≡ line_limit + 1 → taken ≡ []
    → (text_of (report_of_lines chain (lines_of (given ++ later)) more) ≡ taken) × ((report_of_lines chain (lines_of (given ++ later)) more).status ≡ BadSize)
long_reported chain zero given later taken some none long unwritten = absurd (omega (arith, some))
long_reported chain (suc more) given later taken some none long unwritten =
    let begun = line_begun given later none (omega (arith, long)) in
    let ends = long_ends chain more (given ++ begun.0) begun.1 (omega (arith, long, length-append given begun.0)) in
    subst (λ (ls : List (List ℕ)). (text_of (report_of_lines chain ls (suc more)) ≡ taken) × ((report_of_lines chain ls (suc more)).status ≡ BadSize)) (sym begun.2)
    (ends.0 ∙ sym unwritten, ends.1)

-- what follows the lines that are counted
more_reported : (chain : Chain) (more : ℕ) (given later : List ℕ) → more ≡ 0 → length given ≡ 1
    → (text_of (report_of_lines chain (lines_of (given ++ later)) more) ≡ []) × ((report_of_lines chain (lines_of (given ++ later)) more).status ≡ ExtraInput)
more_reported chain more [] later none one = absurd (omega (arith, one))
more_reported chain (suc more) (byte ∷ given) later none one = absurd (omega (arith, none))
more_reported chain zero (byte ∷ given) later none one =
    let begun = line_some byte (given ++ later) in
    subst (λ (ls : List (List ℕ)). (text_of (report_of_lines chain ls zero) ≡ []) × ((report_of_lines chain ls zero).status ≡ ExtraInput)) (sym begun.2) (refl, refl)

-- a part of the answer to a line
part_of_first : (chain : Chain) (more : ℕ) (line : List ℕ) (later : List (List ℕ)) (taken : List ℕ) → 0 < more → IsLine line → IsPrefix taken (answer chain line)
    → IsPrefix taken (text_of (report_of_lines chain (line ∷ later) more))
part_of_first chain zero line later taken some is part = absurd (omega (arith, some))
part_of_first chain (suc more) line later taken some is part =
    let rest = text_of (report_of_lines chain later more) in
    (part.0 ++ rest, (line_answered chain more line later is.short).0 ∙ ap (λ (l : List ℕ). l ++ rest) part.1 ∙ append_assoc taken part.0 rest)

part_reported : (chain : Chain) (more : ℕ) (line given later taken : List ℕ) (left : Option (List ℕ)) → left ≡ Some later → 0 < more → IsLine line → IsGivenAs line left given
    → IsPrefix taken (answer chain line) → IsPrefix taken (text_of (report_of_lines chain (lines_of (given ++ later)) more))
part_reported chain more line given later taken left there some is (inl feed) part =
    subst (λ (ls : List (List ℕ)). IsPrefix taken (text_of (report_of_lines chain ls more)))
    (sym (ap lines_of (ap (λ (l : List ℕ). l ++ later) feed ∙ append_assoc line (10 ∷ []) later) ∙ line_first line later is.unbroken))
    (part_of_first chain more line (lines_of later) taken some is part)
part_reported chain more line given later taken left there some is (inr last) part =
    subst (λ (ls : List (List ℕ)). IsPrefix taken (text_of (report_of_lines chain ls more)))
    (sym (ap lines_of (ap (λ (l : List ℕ). l ++ later) last.0 ∙ ap (λ (l : List ℕ). line ++ l) (left_nothing left later last.2 there) ∙ append-nil line)
    ∙ line_last line is.unbroken last.1))
    (part_of_first chain more line [] taken some is part)

given_holds_no_more : (line given : List ℕ) (left : Option (List ℕ)) → IsLine line → IsGivenAs line left given → HoldsNoMore given
given_holds_no_more line given left is (inl feed) = subst HoldsNoMore (sym feed) (ended_holds_no_more line is.unbroken)
given_holds_no_more line given left is (inr last) = subst HoldsNoMore (sym last.0) (unbroken_holds_no_more line is.unbroken)

given_short : (line given : List ℕ) (left : Option (List ℕ)) → IsLine line → IsGivenAs line left given → AreShort (lines_of given)
given_short line given left is (inl feed) = subst (λ (l : List ℕ). AreShort (lines_of l)) (sym feed) (short_ended line is)
given_short line given left is (inr last) = subst (λ (l : List ℕ). AreShort (lines_of l)) (sym last.0) (short_unbroken line is.unbroken (omega (arith, is.short)))

module _ (sound : Type 0) (chain : Chain) (left_old left_mid left_new taken_old taken_mid taken_new : Option (List ℕ)) (more : ℕ)
    (has : HaveAsked sound chain left_old left_mid taken_old taken_mid more) where
  -- one line more
  pub asked_more : (given taken : List ℕ) (fewer : ℕ) → Gives left_mid left_new given → Takes taken_mid taken_new taken
      → IsAskedNext sound chain left_new (Ok On) given taken → more ≡ fewer + 1 → HaveAsked sound chain left_old left_new taken_old taken_new fewer
  asked_more given taken fewer gives takes one fewer_is =
      let line = one.0 in
      record {
        lines = has.lines ++ line ∷ [];
        said = has.said ++ taken;
        all = lines_push has.lines line has.all one.1;
        gives = subst (Gives left_old left_new) (ap (λ (l : List ℕ). spelled has.lines ++ l) one.2 ∙ sym (spelled_push has.lines line))
            (gives_more left_old left_mid left_new (spelled has.lines) given has.gives gives);
        takes = takes_more taken_old taken_mid taken_new has.said taken has.takes takes;
        counted = omega (arith, has.counted, fewer_is, length-append has.lines (line ∷ []));
        text = λ is. ap (λ (l : List ℕ). l ++ taken) (has.text is) ∙ ap (λ (l : List ℕ). answers chain has.lines ++ l) (one.3 is) ∙ sym (answers_push chain has.lines line);
      }

  -- what follows it
  goes_on : (given taken : List ℕ) → sound → HasAnswered chain (spelled has.lines ++ given) (has.said ++ taken) more given taken
  goes_on given taken is = record {
    lines = has.lines;
    all = has.all;
    given_is = refl;
    taken_is = ap (λ (l : List ℕ). l ++ taken) (has.text is);
    counted = has.counted;
  }

  -- it was given and taken
  pub transferred : (P : List ℕ → List ℕ → Type 0) (given taken : List ℕ) → Gives left_mid left_new given → Takes taken_mid taken_new taken
      → P (spelled has.lines ++ given) (has.said ++ taken) → Transfers left_old left_new taken_old taken_new P
  transferred P given taken gives takes holds = (
    spelled has.lines ++ given,
    has.said ++ taken,
    gives_more left_old left_mid left_new (spelled has.lines) given has.gives gives,
    takes_more taken_old taken_mid taken_new has.said taken has.takes takes,
    holds,
  )

  -- the input ended after a line, or after nothing
  pub answered_all : (given taken : List ℕ) → (0 < length given → 0 < more) → IsAskedNext sound chain left_new (Ok AtEnd) given taken → sound
      → AreAnswered chain (spelled has.lines ++ given) left_new (has.said ++ taken) Done
  answered_all given taken some one is =
      let has_answered = goes_on given taken is in record {
        text = ended_text chain (spelled has.lines ++ given) (has.said ++ taken) more given taken has_answered left_new Done (λ later there.
            subst (λ (l : List ℕ). (text_of (report_of_lines chain (lines_of l) more) ≡ taken) × ((report_of_lines chain (lines_of l) more).status ≡ Done))
            (sym (ap (λ (l : List ℕ). given ++ l) (left_nothing left_new later one.1 there) ∙ append-nil given))
            (last_answered chain more given taken some one.0 (one.2 is)));
        order = in_order chain (spelled has.lines ++ given) (has.said ++ taken) more given taken has_answered left_new Done
            (unbroken_holds_no_more given one.0.unbroken) (short_unbroken given one.0.unbroken (omega (arith, one.0.short)))
            (λ early. absurd (is_early Done early)) (λ _. one.1);
        answered = λ _. has_answered.taken_is ∙ ap (λ (l : List ℕ). answers chain has_answered.lines ++ l) (one.2 is)
            ∙ sym (answers_append chain has_answered.lines (lines_of given))
            ∙ sym (ap (answers chain) (lines_given chain (spelled has.lines ++ given) (has.said ++ taken) more given taken has_answered));
      }

  -- a line was too long
  pub answered_to_long : (given taken : List ℕ) → 0 < more → IsAskedNext sound chain left_new (Ok TooLong) given taken → sound
      → AreAnswered chain (spelled has.lines ++ given) left_new (has.said ++ taken) BadSize
  answered_to_long given taken some one is =
      let has_answered = goes_on given taken is in record {
        text = ended_text chain (spelled has.lines ++ given) (has.said ++ taken) more given taken has_answered left_new BadSize (λ later there.
            long_reported chain more given later taken some one.0 one.1 one.2);
        order = in_order chain (spelled has.lines ++ given) (has.said ++ taken) more given taken has_answered left_new BadSize
            (unbroken_holds_no_more given one.0) (short_unbroken given one.0 (omega (arith, one.1)))
            (λ early. absurd (is_early BadSize early)) (λ done. absurd (cc done));
        answered = λ done. absurd (cc done);
      }

  stopped_reading : (given taken : List ℕ) (status : Status) → IsUnread status given taken → sound
      → AreAnswered chain (spelled has.lines ++ given) left_new (has.said ++ taken) status
  stopped_reading given taken status unread is =
      let has_answered = goes_on given taken is in
      let stop = reading_stops status unread.stop in record {
        text = stopped_text chain (spelled has.lines ++ given) (has.said ++ taken) more given taken has_answered left_new status stop
            (λ later there. (text_of (report_of_lines chain (lines_of (given ++ later)) more), ap (λ (l : List ℕ). l ++ text_of (report_of_lines chain (lines_of (given ++ later)) more)) (sym unread.unwritten)));
        order = in_order chain (spelled has.lines ++ given) (has.said ++ taken) more given taken has_answered left_new status
            (unbroken_holds_no_more given unread.begun.unbroken) (short_unbroken given unread.begun.unbroken unread.begun.short)
            (λ _. unread.unwritten) (λ done. absurd (subst IsStop done stop));
        answered = λ done. absurd (subst IsStop done stop);
      }

  -- it was stopped
  pub answered_to_stop : (given taken : List ℕ) (status : Status) → 0 < more → IsAskedNext sound chain left_new (Err status) given taken → sound
      → AreAnswered chain (spelled has.lines ++ given) left_new (has.said ++ taken) status
  answered_to_stop given taken status some (inl unread) is = stopped_reading given taken status unread is
  answered_to_stop given taken status some (inr cut) is =
      let has_answered = goes_on given taken is in
      let stop = writing_stops status (cut.cut is).stop in record {
        text = stopped_text chain (spelled has.lines ++ given) (has.said ++ taken) more given taken has_answered left_new status stop
            (λ later there. part_reported chain more cut.line given later taken left_new there some cut.is_line cut.given_as (cut.cut is).part);
        order = in_order chain (spelled has.lines ++ given) (has.said ++ taken) more given taken has_answered left_new status
            (given_holds_no_more cut.line given left_new cut.is_line cut.given_as) (given_short cut.line given left_new cut.is_line cut.given_as)
            (cut.cut is).silent (λ done. absurd (subst IsStop done stop));
        answered = λ done. absurd (subst IsStop done stop);
      }

  -- as many lines were read as are counted, and a byte more
  pub answered_to_count : (given : List ℕ) → more ≡ 0 → length given ≡ 1 → sound
      → AreAnswered chain (spelled has.lines ++ given) left_new (has.said ++ []) ExtraInput
  answered_to_count given none one is =
      let has_answered = goes_on given [] is in record {
        text = ended_text chain (spelled has.lines ++ given) (has.said ++ []) more given [] has_answered left_new ExtraInput (λ later there. more_reported chain more given later none one);
        order = in_order chain (spelled has.lines ++ given) (has.said ++ []) more given [] has_answered left_new ExtraInput
            (byte_holds_no_more given one) (short_byte given one) (λ _. refl) (λ done. absurd (cc done));
        answered = λ done. absurd (cc done);
      }

  -- and nothing more
  pub answered_at_count : (given : List ℕ) → given ≡ [] → IsAtEnd left_new → sound
      → AreAnswered chain (spelled has.lines ++ given) left_new (has.said ++ []) Done
  answered_at_count given none at_end is =
      answered_all given [] (λ some. absurd (omega (arith, some, ap length none)))
      (subst (λ (l : List ℕ). IsAskedNext sound chain left_new (Ok AtEnd) l []) (sym none) (record { unbroken = refl; short = omega arith }, at_end, λ _. nothing_asked chain)) is

  -- or the reading failed there
  pub answered_to_fault : (given : List ℕ) (status : Status) → status ≡ InputFault → given ≡ [] → sound
      → AreAnswered chain (spelled has.lines ++ given) left_new (has.said ++ []) status
  answered_to_fault given status fault none is =
      stopped_reading given [] status (record {
        stop = subst IsReadingStop (sym fault) tt;
        begun = subst IsBegun (sym none) (record { unbroken = refl; short = omega arith });
        unwritten = refl;
      }) is

-- ---- What one line leaves, for the next

-- it is answered over the node that was opened
pub asked_as : (sound later : Type 0) (chain now : Chain) (left : Option (List ℕ)) (result : Result Going Status) (given taken : List ℕ) → (sound → later) → now ≡ chain
    → IsAskedNext later now left result given taken → IsAskedNext sound chain left result given taken
asked_as sound later chain now left result given taken there same one = by_result result (subst (λ (c : Chain). IsAskedNext later c left result given taken) same one)
  where
    by_result : (result : Result Going Status) → IsAskedNext later chain left result given taken → IsAskedNext sound chain left result given taken
    by_result (Ok On) one = (one.0, one.1, one.2, λ is. one.3 (there is))
    by_result (Ok AtEnd) one = (one.0, one.1, λ is. one.2 (there is))
    by_result (Ok TooLong) one = one
    by_result (Err status) (inl unread) = inl unread
    by_result (Err status) (inr cut) = inr (record { line = cut.line; is_line = cut.is_line; given_as = cut.given_as; cut = λ is. cut.cut (there is) })

pub same_chain : (before after : NodeValue) (reads : Option Image) (images : Image → Type 0) → KeepsNode before after reads images → after.chain ≡ before.chain
same_chain before after reads images keeps = ap (λ (node : NodeValue). node.chain) keeps.same

pub sound_yet : (before after : NodeValue) (reads now : Option Image) (images : Image → Type 0) → KeepsNode before after now images → now ≡ reads → IsSoundWhereTold before reads → IsSoundWhereTold after now
sound_yet before after reads now images keeps same is = record {
  sound = keeps_sound before after now images keeps is.sound;
  told = subst (λ (o : Option Image). IsSome o) (sym same) is.told;
}

-- what is kept of its transactions is of the same chain
pub held_as : (chain now : Chain) (reads later : Option Image) (held : Option (List Row)) → now ≡ chain → later ≡ reads → (IsSome later → HoldsCommitted now held)
    → IsSome reads → HoldsCommitted chain held
held_as chain now reads later held same told holds there =
    subst (λ (c : Chain). HoldsCommitted c held) same (holds (subst (λ (o : Option Image). IsSome o) (sym told) there))

-- what was looked at before, and then
pub looks_further : {S C First Fault : Type 0} {content_of : S → C} {faults : S → ℕ} {old mid new : S} → content_of mid ≡ content_of old → faults mid ≡ faults old
    → OnlyReads content_of faults mid new First → (Fault → First) → (First → Fault) → OnlyReads content_of faults old new Fault
looks_further same still looks from to = record { content = looks.content ∙ same; cause = after_still still (counts-as looks.cause from to) }

pub looked : {S C Fault : Type 0} {content_of : S → C} {faults : S → ℕ} {old mid : S} → content_of mid ≡ content_of old → faults mid ≡ faults old → (Fault → ⊥)
    → OnlyReads content_of faults old mid Fault
looked same still none = record { content = same; cause = no_fault _ _ still none }

-- ---- Statuses

pub ended_status : (status : Status) → IsOneOf (Done ∷ BadSize ∷ ExtraInput ∷ InputFault ∷ []) status → IsOneOf ask_statuses status
ended_status = among (Done ∷ BadSize ∷ ExtraInput ∷ InputFault ∷ []) ask_statuses refl

pub stopped_status : (status : Status) → IsOneOf (InputFault ∷ line_stops) status → IsOneOf ask_statuses status
stopped_status = among (InputFault ∷ line_stops) ask_statuses refl

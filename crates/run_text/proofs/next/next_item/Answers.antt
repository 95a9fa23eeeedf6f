use Rattle.std.proofs.Common.{◌≡◌, ◌+◌, ◌<◌, ◌⊎◌, inl, inr, true, ◌++◌, length, take, arith, [], refl, ap, sym, ◌∙◌, subst}
use Rattle.std.proofs.lemmas.List.{length-take-le}
use Rattle.std.specs.Int.{w32, from_le_bytes}
use Rattle.outside.proofs.Streams.{gives_more}
use Rattle.outside.specs.Streams.{Gives}
use Rattle.report_defs.specs.Items.{size_word, is_past}
use Rattle.run_text.proofs.Reading.{few_partial, ends_at_end, ends_few, size_of_word, ends_bad_size, ends_extra, take_whole}
use Rattle.run_text.proofs.next.next_item.Goals as goal
use Rattle.run_text.proofs.next.next_item.Goals.{then-size-lt4-via-then-size-lt4, then-size-lt4-via-else-size-lt4+then-size-limit}

pub returns-then-n-eq0-clause-next : goal.returns-then-n-eq0-clause-next
returns-then-n-eq0-clause-next g c =
    let none : take c.in-Ok.n c.read_full.new.into ≡ [] = rw c.if-n-eq0.true refl in (
      take c.in-Ok.n c.read_full.new.into,
      c.in-Ok.ensures.given,
      (
        rw none (ends_at_end _ c.args.input_limit c.args.offset (g.S.Source.left c.read_full.new.source) (c.in-Ok.ensures.end (omega (arith, c.read_full.auto.into)))),
        rw none (few_partial c.args.limit c.args.input_limit c.args.offset [] (omega arith)),
      ),
    )

pub returns-then-n-lt4-clause-next : goal.returns-then-n-lt4-clause-next
returns-then-n-lt4-clause-next g c =
    let size : length (take c.in-Ok.n c.read_full.new.into) ≡ c.in-Ok.n = length-take-le c.in-Ok.n c.read_full.new.into c.in-Ok.ensures.fits in (
      take c.in-Ok.n c.read_full.new.into,
      c.in-Ok.ensures.given,
      (
        ends_few c.args.limit c.args.input_limit c.args.offset (take c.in-Ok.n c.read_full.new.into) (g.S.Source.left c.read_full.new.source) (omega arith) (omega arith)
            (c.in-Ok.ensures.end (omega (arith, c.read_full.auto.into))),
        few_partial c.args.limit c.args.input_limit c.args.offset (take c.in-Ok.n c.read_full.new.into) (omega arith),
      ),
    )

pub returns-in-Err-clause-next : goal.returns-in-Err-clause-next
returns-in-Err-clause-next g c =
    let before = c.in-Err.ensures.given_before in
    (before.0, before.2, (tt, inl (few_partial c.args.limit c.args.input_limit c.args.offset before.0 (omega (arith, before.1, c.read_full.auto.into)))))

pub returns-then-size-lt4-clause-next : goal.returns-then-size-lt4-clause-next
returns-then-size-lt4-clause-next g c =
    let word = take c.in-Ok.n c.read_full.new.into in
    let four : length c.read_full.new.into ≡ 4 = c.read_full.auto.into in
    let all : word ≡ c.read_full.new.into = take_whole c.in-Ok.n c.read_full.new.into (omega (arith, four, c.in-Ok.ensures.fits, c.if-n-lt4.false)) in
    let long : length word ≡ 4 = ap length all ∙ four in
    let says : size_word word ≡ c.from_le_bytes-size.result = size_of_word word long ∙ ap (from_le_bytes w32) all ∙ sym c.from_le_bytes-size.ensures in
    let bad : (size_word word < 4) ⊎ (c.args.limit < size_word word) = rw says (elim c.then-size-lt4.branch [
      | then-size-lt4-via-then-size-lt4 w ↦ inl w.if-size-lt4.true
      | then-size-lt4-via-else-size-lt4+then-size-limit w ↦ inr w.if-size-limit.true
    ]) in
    (word, c.in-Ok.ensures.given, ends_bad_size c.args.limit c.args.input_limit c.args.offset word (g.S.Source.left c.read_full.new.source) long bad)

pub returns-then-is_past-clause-next : goal.returns-then-is_past-clause-next
returns-then-is_past-clause-next g c =
    let word = take c.in-Ok.n c.read_full.new.into in
    let four : length c.read_full.new.into ≡ 4 = c.read_full.auto.into in
    let all : word ≡ c.read_full.new.into = take_whole c.in-Ok.n c.read_full.new.into (omega (arith, four, c.in-Ok.ensures.fits, c.if-n-lt4.false)) in
    let long : length word ≡ 4 = ap length all ∙ four in
    let says : size_word word ≡ c.from_le_bytes-size.result = size_of_word word long ∙ ap (from_le_bytes w32) all ∙ sym c.from_le_bytes-size.ensures in
    let past : is_past c.args.input_limit (c.args.offset + size_word word) ≡ true = rw says (sym c.is_past.ensures ∙ c.if-is_past.true) in
    (word, c.in-Ok.ensures.given, ends_extra c.args.limit c.args.input_limit c.args.offset word (g.S.Source.left c.read_full.new.source) long (rw says (omega (arith, c.if-size-lt4.false))) (rw says (omega (arith, c.if-size-limit.false))) past)

pub returns-clause-next : goal.returns-clause-next
returns-clause-next g c =
    let four : length c.read_full.new.into ≡ 4 = c.read_full.auto.into in
    let all : take c.in-Ok.n c.read_full.new.into ≡ c.read_full.new.into = take_whole c.in-Ok.n c.read_full.new.into (omega (arith, four, c.in-Ok.ensures.fits, c.if-n-lt4.false)) in
    let behind = c.item_of_size.ensures.next c.args.limit (omega (arith, c.if-size-limit.false)) in
    let word : Gives (g.S.Source.left c.args.input.now) (g.S.Source.left c.read_full.new.source) c.read_full.new.into = subst (Gives (g.S.Source.left c.args.input.now) (g.S.Source.left c.read_full.new.source)) all c.in-Ok.ensures.given in
    (c.read_full.new.into ++ behind.0, gives_more (g.S.Source.left c.args.input.now) (g.S.Source.left c.read_full.new.source) (g.S.Source.left c.item_of_size.new.input) c.read_full.new.into behind.0 word behind.1, behind.2)

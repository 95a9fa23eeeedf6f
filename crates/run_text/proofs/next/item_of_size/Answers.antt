use Rattle.std.proofs.Common.{◌≡◌, ◌+◌, ◌<◌, inl, ◌++◌, length, take, drop, arith, ◌∙◌, [], append-nil}
use Rattle.outside.proofs.Streams.{gives_none}
use Rattle.report_defs.specs.Items.{size_word}
use Rattle.run_text.specs.Items.{IsItemAt}
use Rattle.run_text.proofs.Reading.{size_of_word, word_alone, stopped_in_item, ends_in_item, read_whole, written_whole}
use Rattle.run_text.proofs.next.item_of_size.Goals as goal

pub returns-in-Err-clause-next : goal.returns-in-Err-clause-next
returns-in-Err-clause-next g c = λ limit most.
    let word = c.args.word.now in
    let says : size_word word ≡ c.args.size = size_of_word word c.told-word ∙ c.requires.word in (
      [],
      gives_none _,
      (tt, rw append-nil (word_alone limit c.args.input_limit c.args.offset word c.told-word (rw says c.requires.least) (rw says most) (rw says c.requires.within))),
    )

pub returns-in-Err-fill-clause-next : goal.returns-in-Err-fill-clause-next
returns-in-Err-fill-clause-next g c = λ limit most.
    let before = c.in-Err-fill.ensures.given_before in
    let long : length c.deref_mut.result.now ≡ c.args.size = omega (arith, c.deref_mut.ensures.len, c.in-Ok.ensures.len) in (
      before.0,
      before.2,
      (tt, inl (stopped_in_item limit c.args.input_limit c.args.offset c.args.size c.args.word.now before.0 c.told-word c.requires.word c.requires.least most c.requires.within (omega (arith, before.1, long)))),
    )

pub returns-then-n-size-clause-next : goal.returns-then-n-size-clause-next
returns-then-n-size-clause-next g c = λ limit most.
    let long : length c.deref_mut.result.now ≡ c.args.size = omega (arith, c.deref_mut.ensures.len, c.in-Ok.ensures.len) in
    let same : length c.fill.new.item ≡ c.args.size = c.fill.auto.item ∙ long in
    let short : c.in-Ok-fill.n + 4 < c.args.size = omega (arith, c.if-n-size.true, c.requires.least) in (
      take c.in-Ok-fill.n (drop 4 c.fill.new.item),
      c.in-Ok-fill.ensures.given,
      ends_in_item limit c.args.input_limit c.args.offset c.args.size c.in-Ok-fill.n c.args.word.now c.fill.new.item (g.S.Source.left c.fill.new.input) c.told-word c.requires.word
          c.requires.least most c.requires.within same short (c.in-Ok-fill.ensures.end (omega (arith, long, short))),
    )

pub returns-clause-next : goal.returns-clause-next
returns-clause-next g c = λ limit most.
    let long : length c.deref_mut.result.now ≡ c.args.size = omega (arith, c.deref_mut.ensures.len, c.in-Ok.ensures.len) in
    let same : length c.fill.new.item ≡ c.args.size = c.fill.auto.item ∙ long in
    let given = take c.in-Ok-fill.n (drop 4 c.fill.new.item) in
    let whole : IsItemAt limit c.args.input_limit c.args.offset (take c.in-Ok.item.len (c.fill.new.item ++ drop (length c.fill.new.item) c.in-Ok.item.items)) (c.args.word.now ++ given) =
    rw (written_whole c.in-Ok.item.len c.fill.new.item c.in-Ok.item.items (omega (arith, same, c.in-Ok.ensures.len)))
    (read_whole limit c.args.input_limit c.args.offset c.args.size c.in-Ok-fill.n c.args.word.now c.fill.new.item c.told-word c.requires.word
    c.requires.least most c.requires.within same c.in-Ok-fill.ensures.prefix (omega (arith, c.if-n-size.false, c.in-Ok-fill.ensures.read, long))) in
    (given, c.in-Ok-fill.ensures.given, whole)

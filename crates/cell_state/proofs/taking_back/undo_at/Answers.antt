use Rattle.std.proofs.Common.{◌≡◌, true, refl, sym, ap, ◌∙◌}
use Rattle.std.specs.List.{list_all}
use Rattle.std.proofs.lemmas.Bool.{false≢true}
use Rattle.chain_tree.specs.Told.{Stored}
use Rattle.chain_tree.proofs.ReadLemmas.{same_stop, read_on}
use Rattle.chain_defs.specs.Events.{events_of_block}
use Rattle.chain_defs.specs.Ext.{Ext}
use Rattle.chain_defs.specs.Undo.{undone}
use Rattle.cell_state.specs.State.{rows}
use Rattle.cell_state.specs.Moves.{is_below}
use Rattle.cell_state.proofs.BelowLemmas.{below-same, spent-below, undone-below}
use Rattle.cell_state.proofs.HandLemmas.{hand-none, hand-is}
use Rattle.cell_state.proofs.ToldLemmas.{told-it, same-ext, comes-back}
use Rattle.cell_state.proofs.taking_back.undo_at.Goals as goal

pub returns-in-Ok-undo-clause-rows : goal.returns-in-Ok-undo-clause-rows
returns-in-Ok-undo-clause-rows g c stored it before tells there can =
    let block : c.block-block.result ≡ it.block =
    told-it (λ (s : Stored). c.block-block.result ≡ s.block) stored c.args.place it _ _ (c.in-Ok.ensures.read.told ∙ tells) c.in-Ok.ensures.taken there c.block-block.ensures in
    let bytes : c.spent.result.now ≡ it.ext =
    told-it (λ (s : Stored). c.spent.result.now ≡ s.ext) stored c.args.place it _ _ (c.in-Ok.ensures.read.told ∙ tells) c.in-Ok.ensures.taken there c.spent.ensures.ext in
    let own = sym c.in-Ok-Some.field-0-is ∙ c.in-Ok-Some.ensures.exact can.ext can.fits (can.bytes_are ∙ sym bytes) in
    (c.in-Ok-undo.ensures.before can.height before
    (comes-back it.block c.block-block.result it.ext (rows c.args.state.now) (rows c.reserve.new.self) before can _ block own c.in-Ok-reserve.ensures.rows)).1

pub returns-clause-undamaged : goal.returns-clause-undamaged
returns-clause-undamaged g c stored it before tells there can under damage same =
    let block : c.block-block.result ≡ it.block =
    told-it (λ (s : Stored). c.block-block.result ≡ s.block) stored c.args.place it _ _ (c.in-Ok.ensures.read.told ∙ tells) c.in-Ok.ensures.taken there c.block-block.ensures in
    let bytes : c.spent.result.now ≡ it.ext =
    told-it (λ (s : Stored). c.spent.result.now ≡ s.ext) stored c.args.place it _ _ (c.in-Ok.ensures.read.told ∙ tells) c.in-Ok.ensures.taken there c.spent.ensures.ext in
    let own = sym c.in-Ok-Some.field-0-is ∙ c.in-Ok-Some.ensures.exact can.ext can.fits (can.bytes_are ∙ sym bytes) in
    false≢true ((c.in-Err-undo.ensures.before can.height before
    (comes-back it.block c.block-block.result it.ext (rows c.args.state.now) (rows c.reserve.new.self) before can _ block own c.in-Ok-reserve.ensures.rows)).0)

pub returns-clause-at_record : goal.returns-clause-at_record
returns-clause-at_record g c tells damage same = c.damaged_at-in-Err-undo.ensures.at_record damage (same_stop _ _ same)

pub returns-clause-read : goal.returns-clause-read
returns-clause-read g c = read_on c.in-Ok.ensures.read c.damaged_at-in-Err-undo.ensures.read

pub returns-then-not-are_below-clause-read : goal.returns-then-not-are_below-clause-read
returns-then-not-are_below-clause-read g c = read_on c.in-Ok.ensures.read c.damaged_at.ensures.read

pub returns-then-not-are_below-clause-at_record : goal.returns-then-not-are_below-clause-at_record
returns-then-not-are_below-clause-at_record g c tells damage same = c.damaged_at.ensures.at_record damage (same_stop _ _ same)

pub returns-then-not-are_below-clause-undamaged : goal.returns-then-not-are_below-clause-undamaged
returns-then-not-are_below-clause-undamaged g c stored it before tells there can under damage same =
    let bytes : c.spent.result.now ≡ it.ext =
    told-it (λ (s : Stored). c.spent.result.now ≡ s.ext) stored c.args.place it _ _ (c.in-Ok.ensures.read.told ∙ tells) c.in-Ok.ensures.taken there c.spent.ensures.ext in
    let own : c.in-Ok-Some.ext ≡ can.ext =
    same-ext c.in-Ok-Some.ext can.ext (sym c.in-Ok-Some.field-0-is ∙ c.in-Ok-Some.ensures.exact can.ext can.fits (can.bytes_are ∙ sym bytes)) in
    let spent : c.deref.result.now ≡ can.ext.spent =
    c.deref.ensures.value ∙ ap (λ (ext : Ext). ext.spent) (c.ext.view_is ∙ own) in
    false≢true
    (sym c.if-not-are_below.true ∙ c.are_below.ensures ∙ ap (list_all (is_below c.args.place)) (spent ∙ can.comes_before.spent_is)
    ∙ spent-below (events_of_block can.height it.block) before c.args.place under)

pub returns-in-Ok-undo-clause-below : goal.returns-in-Ok-undo-clause-below
returns-in-Ok-undo-clause-below g c end less are =
    let spent : c.deref.result.now ≡ c.in-Ok-Some.ext.spent = c.deref.ensures.value ∙ ap (λ (ext : Ext). ext.spent) c.ext.view_is in
    let all : list_all (is_below c.args.place) c.in-Ok-Some.ext.spent ≡ true =
    ap (list_all (is_below c.args.place)) (sym spent) ∙ sym c.are_below.ensures ∙ c.if-not-are_below.false in
    below-same _ (undone (events_of_block 1 c.block-block.result) c.in-Ok-Some.ext.spent (rows c.reserve.new.self)) end (λ o. c.in-Ok-undo.ensures.rows 1 o)
    (undone-below (events_of_block 1 c.block-block.result) c.in-Ok-Some.ext.spent (rows c.reserve.new.self) c.args.place end all less
    (below-same (rows c.reserve.new.self) (rows c.args.state.now) end c.in-Ok-reserve.ensures.rows are))

pub returns-in-Err-clause-in_hand : goal.returns-in-Err-clause-in_hand
returns-in-Err-clause-in_hand g c damage same = hand-none _ _ c.in-Err.ensures.dropped

pub returns-then-not-are_below-clause-in_hand : goal.returns-then-not-are_below-clause-in_hand
returns-then-not-are_below-clause-in_hand g c damage same =
    hand-is _ _ c.args.place (c.damaged_at.ensures.in_hand ∙ c.in-Ok.ensures.taken) (refl, c.damaged_at.ensures.at_record damage (same_stop _ _ same))

pub returns-clause-in_hand : goal.returns-clause-in_hand
returns-clause-in_hand g c damage same =
    hand-is _ _ c.args.place (c.damaged_at-in-Err-undo.ensures.in_hand ∙ c.in-Ok.ensures.taken)
    (refl, c.damaged_at-in-Err-undo.ensures.at_record damage (same_stop _ _ same))

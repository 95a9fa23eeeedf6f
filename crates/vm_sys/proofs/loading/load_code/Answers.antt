use Rattle.std.proofs.Common.{◌≡◌, ap, length, refl, subst, sym, ◌∙◌}
use Rattle.vm_sys.specs.Answering.{AddsPages, ContentTouches}
use Rattle.vm_sys.proofs.Exits.{code-outside, code-placed, code-stopped, code-unaligned, content-held, content-touches, content_of, ended-held, front-fits, has_part_pages, is_outside, stopped-held}
use Rattle.vm_sys.proofs.loading.load_code.Goals as goal

pub returns-then-lies_outside-clause-answer : goal.returns-then-lies_outside-clause-answer
returns-then-lies_outside-clause-answer c =
    let m = c.args.machine.now.machine in
    let out : is_outside m c.args.item.now ≡ c.lies_outside.result =
    rw (c.lies_outside.ensures, c.reg-offset.ensures, c.reg-count.ensures, c.reg-size.ensures) refl in
    code-outside m c.args.item.now c.set_reg.new.self.machine (out ∙ c.if-lies_outside.true) (ap (λ running. running.machine) c.set_reg.ensures)

pub returns-then-is_unaligned-clause-answer : goal.returns-then-is_unaligned-clause-answer
returns-then-is_unaligned-clause-answer c =
    let m = c.args.machine.now.machine in
    let out : is_outside m c.args.item.now ≡ c.lies_outside.result =
    rw (c.lies_outside.ensures, c.reg-offset.ensures, c.reg-count.ensures, c.reg-size.ensures) refl in
    let parts : has_part_pages m ≡ c.is_unaligned.result = rw (c.is_unaligned.ensures, c.reg-to.ensures, c.reg-size.ensures) refl in
    code-unaligned m c.args.item.now m (out ∙ c.if-lies_outside.false) (parts ∙ c.if-is_unaligned.true) refl

pub returns-in-Err-clause-answer : goal.returns-in-Err-clause-answer
returns-in-Err-clause-answer c =
    let m = c.args.machine.now.machine in
    let out : is_outside m c.args.item.now ≡ c.lies_outside.result =
    rw (c.lies_outside.ensures, c.reg-offset.ensures, c.reg-count.ensures, c.reg-size.ensures) refl in
    let parts : has_part_pages m ≡ c.is_unaligned.result = rw (c.is_unaligned.ensures, c.reg-to.ensures, c.reg-size.ensures) refl in
    let content : c.first-content.result.now ≡ content_of m c.args.item.now =
    rw (c.first-content.ensures, c.from.ensures, c.reg-offset.ensures, c.reg-count.ensures) refl in
    code-stopped m c.args.item.now c.place_code.new.memory.memory c.in-Err.stop _ _ (out ∙ c.if-lies_outside.false) (parts ∙ c.if-is_unaligned.false)
    (rw (content, c.memory_mut.ensures.memory, c.reg-to.ensures, c.reg-size.ensures) at c.in-Err.ensures.placed) c.stopped.ensures refl

pub returns-clause-answer : goal.returns-clause-answer
returns-clause-answer c =
    let m = c.args.machine.now.machine in
    let out : is_outside m c.args.item.now ≡ c.lies_outside.result =
    rw (c.lies_outside.ensures, c.reg-offset.ensures, c.reg-count.ensures, c.reg-size.ensures) refl in
    let parts : has_part_pages m ≡ c.is_unaligned.result = rw (c.is_unaligned.ensures, c.reg-to.ensures, c.reg-size.ensures) refl in
    let content : c.first-content.result.now ≡ content_of m c.args.item.now =
    rw (c.first-content.ensures, c.from.ensures, c.reg-offset.ensures, c.reg-count.ensures) refl in
    code-placed m c.args.item.now c.place_code.new.memory.memory c.reg-size.result _ _ _ (out ∙ c.if-lies_outside.false) (parts ∙ c.if-is_unaligned.false)
    (rw (content, c.memory_mut.ensures.memory, c.reg-to.ensures, c.reg-size.ensures) at c.in-Ok.ensures.placed) refl c.reg-size.ensures c.pay.ensures.answer

pub returns-in-Err-clause-in_part : goal.returns-in-Err-clause-in_part
returns-in-Err-clause-in_part c =
    stopped-held _ _ _ c.stopped.ensures
    (content-held c.args.machine.now.machine _ c.place_code.new.memory.memory
    (rw (c.memory_mut.ensures.memory, c.reg-to.ensures, c.reg-size.ensures) at c.in-Err.ensures.in_part) refl)

pub returns-clause-in_part : goal.returns-clause-in_part
returns-clause-in_part c = ended-held _ _ c.pay.ensures.ends

pub returns-in-Err-clause-pages_added : goal.returns-in-Err-clause-pages_added
returns-in-Err-clause-pages_added c =
    content-touches c.args.machine.now.machine c.args.machine.now.allocated c.place_code.new.memory.allocated c.reg-to.result (length c.first-content.result.now)
    (rw c.memory_mut.ensures.memory at c.in-Err.ensures.pages_added) c.reg-to.ensures
    (front-fits c.from.result.now c.first-content.result.now c.reg-count.result _ c.first-content.ensures c.reg-count.ensures)

pub returns-clause-pages_added : goal.returns-clause-pages_added
returns-clause-pages_added c =
    subst (λ allocated. AddsPages c.args.machine.now.allocated allocated (ContentTouches c.args.machine.now.machine)) (sym c.pay.ensures.allocated)
    (content-touches c.args.machine.now.machine c.args.machine.now.allocated c.place_code.new.memory.allocated c.reg-to.result (length c.first-content.result.now)
    (rw c.memory_mut.ensures.memory at c.in-Ok.ensures.pages_added) c.reg-to.ensures
    (front-fits c.from.result.now c.first-content.result.now c.reg-count.result _ c.first-content.ensures c.reg-count.ensures))

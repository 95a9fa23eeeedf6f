use Rattle.std.proofs.Common.{ℕ, ap, length, refl, sym, ◌∙◌}
use Rattle.machine_defs.specs.Memory.{load}
use Rattle.vm_mem.specs.declared.stop.MemStop.TheVariants.{Fault}
use Rattle.vm_sys.proofs.Exits.{ended-held, length-refused, no-word-held, none-held, part-paid, part-refused, stopped-held, word-held, word-refused}
use Rattle.vm_sys.proofs.loading.load_part.Goals as goal

pub returns-in-Err-clause-answer : goal.returns-in-Err-clause-answer
returns-in-Err-clause-answer c =
    let m = c.args.machine.now.machine in
    word-refused m c.args.item.now c.in-Err.fault _ _
    (ap (λ (at : ℕ). load m.memory at 8) (sym c.reg-length_at.ensures) ∙ sym c.load_word.ensures.word ∙ c.in-Err.is) c.stopped.ensures
    (ap (λ running. running.machine) c.load_word.ensures.unchanged)

pub returns-in-Err-store_word-clause-answer : goal.returns-in-Err-store_word-clause-answer
returns-in-Err-store_word-clause-answer c =
    let m = c.args.machine.now.machine in
    length-refused m c.args.item.now c.in-Ok.word _ _ _ c.in-Err-store_word.stop _ _
    (ap (λ (at : ℕ). load m.memory at 8) (sym c.reg-length_at.ensures) ∙ sym c.load_word.ensures.word ∙ c.in-Ok.is)
    (rw (c.load_word.ensures.unchanged, c.reg-length_at.ensures, c.from-rest.ensures, c.reg.ensures) refl)
    c.in-Err-store_word.ensures.stores c.stopped-in-Err-store_word.ensures
    (ap (λ running. running.machine) c.store_word.ensures.rest
    ∙ ap (λ running. record running.machine { memory = c.store_word.new.machine.machine.memory }) c.load_word.ensures.unchanged)

pub returns-in-Err-store_bytes-clause-answer : goal.returns-in-Err-store_bytes-clause-answer
returns-in-Err-store_bytes-clause-answer c =
    let m = c.args.machine.now.machine in
    let two = c.store_bytes.new.machine.machine.memory in
    part-refused m c.args.item.now c.in-Ok.word _ _ _ c.store_word.new.machine.machine.memory _ _ c.in-Err-store_bytes.stop _ _
    (ap (λ (at : ℕ). load m.memory at 8) (sym c.reg-length_at.ensures) ∙ sym c.load_word.ensures.word ∙ c.in-Ok.is)
    (rw (c.load_word.ensures.unchanged, c.reg-length_at.ensures, c.from-rest.ensures, c.reg.ensures) refl)
    c.in-Ok-store_word.ensures.stores
    (rw (c.reg-to.ensures, c.first-part.ensures, c.from-rest.ensures, c.reg.ensures) refl)
    c.in-Err-store_bytes.ensures.stores c.stopped-in-Err-store_bytes.ensures
    (ap (λ running. running.machine) c.store_bytes.ensures.rest ∙ ap (λ running. record running.machine { memory = two }) c.store_word.ensures.rest
    ∙ ap (λ running. record running.machine { memory = two }) c.load_word.ensures.unchanged)

pub returns-clause-answer : goal.returns-clause-answer
returns-clause-answer c =
    let m = c.args.machine.now.machine in
    let two = c.store_bytes.new.machine.machine.memory in
    part-paid m c.args.item.now c.in-Ok.word _ _ _ c.store_word.new.machine.machine.memory _ two
    (length c.first-part.result.now) c.store_bytes.new.machine.machine _ _
    (ap (λ (at : ℕ). load m.memory at 8) (sym c.reg-length_at.ensures) ∙ sym c.load_word.ensures.word ∙ c.in-Ok.is)
    (rw (c.load_word.ensures.unchanged, c.reg-length_at.ensures, c.from-rest.ensures, c.reg.ensures) refl)
    c.in-Ok-store_word.ensures.stores
    (rw (c.reg-to.ensures, c.first-part.ensures, c.from-rest.ensures, c.reg.ensures) refl)
    c.in-Ok-store_bytes.ensures.stores
    (rw (c.first-part.ensures, c.from-rest.ensures, c.reg.ensures) refl)
    (ap (λ running. running.machine) c.store_bytes.ensures.rest ∙ ap (λ running. record running.machine { memory = two }) c.store_word.ensures.rest
    ∙ ap (λ running. record running.machine { memory = two }) c.load_word.ensures.unchanged)
    c.pay.ensures.answer

pub returns-in-Err-clause-in_part : goal.returns-in-Err-clause-in_part
returns-in-Err-clause-in_part c =
    stopped-held (Fault c.in-Err.fault) _ _ c.stopped.ensures (none-held _ _ (ap (λ running. running.machine) c.load_word.ensures.unchanged))

pub returns-in-Err-store_word-clause-in_part : goal.returns-in-Err-store_word-clause-in_part
returns-in-Err-store_word-clause-in_part c =
    stopped-held _ _ _ c.stopped-in-Err-store_word.ensures
    (no-word-held c.args.machine.now.machine _ _ _ _ c.in-Err-store_word.stop c.in-Err-store_word.ensures.stores
    (ap (λ running. running.machine.memory) c.load_word.ensures.unchanged)
    (ap (λ running. running.machine) c.store_word.ensures.rest
    ∙ ap (λ running. record running.machine { memory = c.store_word.new.machine.machine.memory }) c.load_word.ensures.unchanged))

pub returns-in-Err-store_bytes-clause-in_part : goal.returns-in-Err-store_bytes-clause-in_part
returns-in-Err-store_bytes-clause-in_part c =
    let two = c.store_bytes.new.machine.machine.memory in
    stopped-held _ _ _ c.stopped-in-Err-store_bytes.ensures
    (word-held c.args.machine.now.machine _ (length c.from-rest.result.now) _ _ _ c.store_word.new.machine.machine.memory _ two c.in-Err-store_bytes.stop
    (rw (c.load_word.ensures.unchanged, c.reg-length_at.ensures) refl)
    c.in-Ok-store_word.ensures.stores c.in-Err-store_bytes.ensures.stores refl
    (ap (λ running. running.machine) c.store_bytes.ensures.rest ∙ ap (λ running. record running.machine { memory = two }) c.store_word.ensures.rest
    ∙ ap (λ running. record running.machine { memory = two }) c.load_word.ensures.unchanged))

pub returns-clause-in_part : goal.returns-clause-in_part
returns-clause-in_part c = ended-held _ _ c.pay.ensures.ends

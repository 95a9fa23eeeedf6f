use Rattle.std.proofs.Common.{◌≡◌, List, [], ℕ, IfOk, ap, subst, ◌∙◌}
use Rattle.chain_defs.specs.Shape.{encoded}
use Rattle.chain_defs.specs.Schema as schema
use Rattle.chain_gen.proofs.Beginning.{lock_is}
use Rattle.chain_gen.proofs.start.lock.Goals as goal

pub returns-clause-lock : goal.returns-clause-lock
returns-clause-lock c =
    subst (λ (l : List ℕ). IfOk c.script_table.result (λ bytes. bytes.items ≡ l))
    (ap (λ (hash : List ℕ). encoded schema.script (record { code_hash = hash; hash_type = 0; args = [] })) c.ckbhash.ensures
    ∙ lock_is _ (c.deref.ensures.value ∙ c.in_ok-file.ensures.file))
    c.script_table.ensures.bytes

use Rattle.std.proofs.Common.{◌≡◌, ℕ, List, [], ◌∷◌, ◌++◌, false, ap, sym, subst, ◌∙◌}
use Rattle.chain_defs.specs.Dao.{DaoField}
use Rattle.chain_gen.specs.declared.heights.After.{After}
use Rattle.chain_gen.specs.declared.growth.Head.{Head}
use Rattle.chain_gen.specs.Content.{after_height}
use Rattle.chain_gen.specs.Walk.{IsAt}
use Rattle.chain_gen.proofs.Walking.{first_height, genesis_at}
use Rattle.chain_gen.proofs.growth.walk_from.Goals as goal

abbrev first : List ℕ → DaoField → After
first hash field = record { coin = record { out_point = record { tx_hash = hash; index = 1 }; capacity = 1000000000000000 }; field = field }

pub returns : goal.returns
returns c =
    λ seed.
    let hash : List ℕ = c.args.genesis_hash.now in
    let head : Head = record { hash = c.ckbhash.result; number = 0; timestamp = 1000 } in
    let first_is : first hash c.genesis_field.result ≡ after_height 0 =
    ap (λ (l : List ℕ). first l c.genesis_field.result) c.requires.hash ∙ ap (λ (f : DaoField). first _ f) c.genesis_field.ensures ∙ sym first_height in
    let items = c.in_ok-push.ensures.items ∙ ap (λ (l : List After). l ++ first hash c.genesis_field.result ∷ []) c.in_ok-after.ensures.items in
    subst (λ (heights : List After). IsAt (record { tip = head; before_tip = head; last = head; is_sibling = false }) heights seed 0) (sym items)
    (genesis_at seed c.ckbhash.result c.args.header.now (first hash c.genesis_field.result) c.requires.header c.ckbhash.ensures first_is)

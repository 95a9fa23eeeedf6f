-- An item that can join a chain is taken by a log of it.
use Rattle.std.proofs.Common.{◌≡◌, ℕ, Bool, true, List, Option, Some, sym, ap, ◌∙◌, arith}
use Rattle.std.specs.Prelude.{◌&&◌, not, is_some}
use Rattle.std.specs.Option.{option_and_then}
use Rattle.std.proofs.lemmas.Bool.{and_from}
use Rattle.chain_defs.specs.Schema.{Block}
use Rattle.chain_defs.specs.Kept.{block_hash, block_at, place_of, follows}
use Rattle.chain_defs.specs.Branch.{branch}
use Rattle.chain_defs.proofs.KeptLaws.{place_of-below}
use Rattle.chain_defs.proofs.BranchLaws.{branch-last}
use Rattle.chain_defs.specs.Specification.{Specification}
use Rattle.rule_defs.specs.Header.{parent_of}
use Rattle.verdict_defs.specs.Laws.{MayJoin}
use Rattle.verdict_defs.proofs.VerdictLaws.{follows-unbroken}
use Rattle.chain_defs.specs.Ext.{is_ext}
use Rattle.store_defs.specs.Store.{ext_over}
use Rattle.disk_defs.specs.Log.{body_of_parts, parts_of_body, may_stand_on, block_if, block_of_parts}
use Rattle.store_defs.specs.JoinLaws.{TakesWhatJoins}
use Rattle.disk_defs.proofs.Contents.{gives_the_parts}

-- A block that may join may stand after the kept ones.
pub may_stand : (spec : Specification) (kept : List Block) (b : Block) → MayJoin spec kept b → may_stand_on kept b ≡ true
may_stand spec kept b may =
    let last : parent_of (branch kept may.parent) ≡ block_at kept may.parent =
    branch-last kept may.parent (place_of-below kept b.header.parent_hash may.parent may.on_kept) in
    let next : follows b (option_and_then (block_at kept) (place_of kept b.header.parent_hash)) ≡ true =
    ap (λ (place : Option ℕ). follows b (option_and_then (block_at kept) place)) may.on_kept
    ∙ ap (follows b) (sym last) ∙ follows-unbroken spec (branch kept may.parent) b may.unbroken in
    let new : not (is_some (place_of kept (block_hash b))) ≡ true = ap (λ (place : Option ℕ). not (is_some place)) may.new in
    and_from (follows b (option_and_then (block_at kept) (place_of kept b.header.parent_hash))) (not (is_some (place_of kept (block_hash b)))) next new

pub takes_what_joins : TakesWhatJoins
takes_what_joins chain item can short form =
    let b : Block = can.block in
    let kept : List Block = chain.blocks in
    let ext : List ℕ = ext_over chain item in
    let parts : parts_of_body (body_of_parts item ext) ≡ Some (item, ext) = gives_the_parts item ext (omega (arith, short)) in
    let test : (is_ext ext && may_stand_on kept b) ≡ true =
    and_from (is_ext ext) (may_stand_on kept b) form (may_stand chain.spec kept b can.may) in
    ap (block_of_parts kept) parts
    ∙ ap (option_and_then (λ (x : Block). block_if (is_ext ext && may_stand_on kept x) (Some x))) can.canonical
    ∙ ap (λ (t : Bool). block_if t (Some b)) test

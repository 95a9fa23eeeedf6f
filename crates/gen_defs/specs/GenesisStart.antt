-- What a generated chain begins with is what a new store asks for.
use Rattle.std.specs.Prelude.{◌≡◌, length, None}
use Rattle.chain_defs.specs.Shape.{encoded}
use Rattle.chain_defs.specs.Schema.{block}
use Rattle.rule_defs.specs.Genesis.{broken_genesis_rule}
use Rattle.gen_defs.specs.Start.{specification, specification_bytes, genesis}

-- Law: the bytes of the genesis keep G1 to G7.
abbrev pub KeepsGenesisRules : Type 0
KeepsGenesisRules = broken_genesis_rule (encoded block genesis) ≡ None

-- Law: so many bytes the specification and the genesis have.
abbrev pub AreOfSizes : Type 0
AreOfSizes = (length (specification_bytes specification) ≡ 100) × (length (encoded block genesis) ≡ 666)

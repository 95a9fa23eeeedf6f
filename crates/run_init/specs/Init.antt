-- The parts of `init`: what is said of what was read, and what is left.
use Rattle.std.specs.Prelude.{◌≡◌, ℕ, List, [], ◌∷◌}
use Rattle.outside.specs.Image.{Image}
use Rattle.verdict_defs.specs.Chain.{chain_of_genesis}
use Rattle.store_defs.specs.Store.{StandsFor, new_image}
use Rattle.report_defs.specs.declared.status.Status.{Status}
use Rattle.report_defs.specs.declared.status.Status.TheVariants.{Done, SinkFault, DiskFault, NoMemory, BadGenesis}
use Rattle.report_defs.specs.Text.{bad_spec_line, bad_genesis_line}
use Rattle.node_store.specs.declared.new_store.NewStop.{NewStop}
use Rattle.node_store.specs.declared.new_store.NewStop.TheVariants as stops

-- what is said of a rule that is broken
abbrev pub text_of_stop : NewStop → List ℕ
text_of_stop (stops.BadSpec rule) = bad_spec_line rule
text_of_stop (stops.BadGenesis rule) = bad_genesis_line rule
text_of_stop stops.NoMemory = []

-- the disk has one image, that of a new store, which keeps the genesis alone
abbrev pub StandsAlone : List ℕ → List ℕ → (Image → Type 0) → Type 0
StandsAlone specification genesis images =
    (only : Image) × ((image : Image) → images image → image ≡ only) × StandsFor (chain_of_genesis specification genesis) only × (only ≡ new_image specification genesis)

abbrev pub new_statuses : List Status
new_statuses = Done ∷ SinkFault ∷ DiskFault ∷ NoMemory ∷ BadGenesis ∷ []

-- A refused call leaves the disk below as it was.
use Rattle.std.proofs.Common.{◌≡◌, ℕ, List, [], Option, None, Some, Result, Ok, Err, ap, ◌∙◌, subst}
use Rattle.std.specs.Prelude.{OnErr}
use Rattle.outside.specs.declared.disk.Area.{Area}
use Rattle.outside.specs.Image.{Image, content, InArea}
use Rattle.outside.specs.Disk.{Follows, OthersRead}
use Rattle.outside.proofs.Images.{own_content}

-- the area is among those that may read otherwise
others_kept : (area : Area) (old new : Option Image) → new ≡ old → OthersRead area old new
others_kept area None new same = ([], same)
others_kept area (Some image) new same = (content area image, same ∙ ap Some (own_content area image))

pub refused_others : {T E : Type 0} (area : Area) (result : Result T E) (old new : Option Image) → new ≡ old → OnErr result (OthersRead area old new)
refused_others area (Ok _) old new same = tt
refused_others area (Err _) old new same = others_kept area old new same

-- each image is one from before, after a step that changed nothing
pub refused_images : {D : Type 0} (images : D → Image → Type 0) (area : Area) (step : List ℕ → List ℕ → Type 0) → ((bytes : List ℕ) → step bytes bytes)
    → (old new : D) → new ≡ old → Follows (InArea area step) (images old) (images new)
refused_images images area step unchanged old new same image left =
    (image, subst (λ disk. images disk image) same left, (content area image, unchanged (content area image), own_content area image))

-- The joined trolleys mean the path, whose outline is computed.
use Rattle.std.proofs.Common.{ap, ◌∙◌}
use Rattle.layers.specs.Layers.{joined}
use Rattle.survey.specs.Calls.{Outlined}
use Rattle.lemburat.specs.Outline.{outline_of, counts_of}
use Rattle.lemburat.proofs.Paths.{path_outlined, path_counted}
use Rattle.lemburat.proofs.trolley_path.outline_path.Goals as goal

pub returns : goal.returns
returns c =
    let b = c.args.slots.now in
    record {
      tells = c.outline.ensures.tells ∙ (λ i. counts_of (joined (c.loaded_trolley.ensures i) (c.loaded_trolley-2.ensures i)) b) ∙ path_counted b c.requires;
      writes = c.outline.ensures.writes ∙ (λ i. (outline_of (joined (c.loaded_trolley.ensures i) (c.loaded_trolley-2.ensures i)) b).buffer) ∙ ap (λ (o : Outlined). o.buffer) (path_outlined b c.requires);
    }

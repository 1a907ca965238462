-- Both sources hold lane e, its sum is that of what feeds it, and its place lies within the destination.
use Rattle.std.proofs.Common.{◌∙◌, ap}
use Rattle.words.proofs.Decoding.{source_in}
use Rattle.lanes.specs.Integer.{residue}
use Rattle.rows.specs.declared.WideFamily.TheVariants.{Widening}
use Rattle.meaning.proofs.Sizes.{second_most}
use Rattle.widens.proofs.Fed.{holds, placed, written, widening_fed}
use Rattle.widens.proofs.write_widening.Goals as goal

pub widening_lane-number-requires : goal.widening_lane-number-requires
widening_lane-number-requires c =
    let h = c.requires in
    let x = h.lanes.word.word in (
      holds _ _ _ _ _ _ Widening h _ _ (source_in x.fields) c.register-first.ensures,
      holds _ _ _ _ _ _ Widening h _ _ (second_most _ _ _ x) c.register-second.ensures,
    )

pub write_lane-requires : goal.write_lane-requires
write_lane-requires c = placed _ _ _ _ _ _ Widening c.requires

pub returns : goal.returns
returns c =
    c.write_lane.ensures
    ∙ written _ _ _ _ _ _ Widening c.requires _
    (c.widening_lane-number.ensures
    ∙ ap (residue 64) (widening_fed _ _ _ _ _ _ _ _ c.requires c.register-first.ensures c.register-second.ensures))

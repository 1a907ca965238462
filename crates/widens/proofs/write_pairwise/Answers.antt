-- The registers that the fields name hold lane e, its sum is that of what feeds it, and its place lies within the destination.
use Rattle.std.proofs.Common.{◌∙◌, ap}
use Rattle.words.proofs.Decoding.{destination_in, source_in}
use Rattle.lanes.specs.Integer.{residue}
use Rattle.rows.specs.declared.WideFamily.TheVariants.{Pairwise}
use Rattle.widens.proofs.Fed.{holds, governed, placed, written, pairwise_fed}
use Rattle.widens.proofs.write_pairwise.Goals as goal

pub pairwise_lane-number-requires : goal.pairwise_lane-number-requires
pairwise_lane-number-requires c =
    let h = c.requires in
    let x = h.lanes.word.word in (
      holds _ _ _ _ _ _ Pairwise h _ _ (source_in x.fields) c.register-first.ensures,
      holds _ _ _ _ _ _ Pairwise h _ _ (destination_in x.fields) c.register-old.ensures,
      governed _ _ _ _ _ _ Pairwise h _ _ c.register-mask.ensures c.register-old.ensures,
    )

pub write_lane-requires : goal.write_lane-requires
write_lane-requires c = placed _ _ _ _ _ _ Pairwise c.requires

pub returns : goal.returns
returns c =
    c.write_lane.ensures
    ∙ written _ _ _ _ _ _ Pairwise c.requires _
    (c.pairwise_lane-number.ensures
    ∙ ap (residue 64) (pairwise_fed _ _ _ _ _ _ _ _ _ c.requires c.register-mask.ensures c.register-first.ensures c.register-old.ensures))

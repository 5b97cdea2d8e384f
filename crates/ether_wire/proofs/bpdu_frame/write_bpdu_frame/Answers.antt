use Rattle.std.proofs.Common.{◌≡◌, ◌-◌, ◌++◌, length, replicate, ◌∙◌, ap}
use Rattle.ether_wire.specs.BpduFrame.{bpdu_header, bpdu_frame_of}
use Rattle.ether_wire.proofs.FrameLemmas.{three_parts}
use Rattle.ether_wire.proofs.bpdu_frame.write_bpdu_frame.Goals as goal

pub returns : goal.returns
unfolding bpdu_frame_of
returns c =
    let size = length c.args.bpdu.now in
    let header : c.copy_from_slice.new.self ≡ bpdu_header c.args.source size = c.copy_from_slice.ensures.after
    ∙ c.header.ensures in
    let body = c.copy_from_slice-2.ensures.after in
    three_parts c.args.frame.now c.copy_from_slice.new.self c.copy_from_slice-2.new.self c.fill.new.self size
    c.told-frame (ap length header) (ap length body) c.requires (c.fill.ensures.after (λ y is. is))
    ∙ (λ i. header i ++ (body i ++ replicate (43 - size) 0))

-- Each answer is computed. Assumes nothing.
use mathlib.Core.Path.{refl}
use Rattle.network.specs.Octets.{octets}
use Rattle.transport.specs.Listed.{cut, pdus, written}
use Rattle.transport.specs.Segment.{segment_number, segment_front}
use Rattle.transport.specs.Vetting.{octet_allowed, bit_allowed, least, fills, fits, judged_from, judged, joined, vetting}
use Rattle.transport.specs.VettedMet.{VettedMet}

pub vetted_met : VettedMet
unfolding vetting judged judged_from joined written pdus cut fits fills least bit_allowed octet_allowed segment_front segment_number octets
vetted_met =
    record { approved = refl; cut_short = refl; none_at_all = refl; as_control = refl; one_too_many = refl; short_buffer = refl }

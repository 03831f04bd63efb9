use Rattle.std.proofs.Common.{arith}
use Rattle.ioc_double.proofs.LastDigits.{padding, padding_room, padding_length}
use Rattle.ioc_double.proofs.pieces.pad_front.Goals as goal

pub push_bytes-requires : goal.push_bytes-requires
push_bytes-requires c = padding_room c.args.text.now.items _ _ _ c.args.width c.loop.invariant.items (omega arith) c.as_slice.ensures.value c.requires c.as_slice.ensures.fits

pub returns-clause-value : goal.returns-clause-value
returns-clause-value c = padding c.args.text.now.items _ _ _ _ c.args.width c.loop.invariant.items (omega arith) c.as_slice.ensures.value c.push_bytes.ensures

pub returns-clause-short : goal.returns-clause-short
returns-clause-short c =
    padding_length _ _ _ c.push_bytes.ensures
    (padding_room c.args.text.now.items _ _ _ c.args.width c.loop.invariant.items (omega arith) c.as_slice.ensures.value c.requires c.as_slice.ensures.fits)

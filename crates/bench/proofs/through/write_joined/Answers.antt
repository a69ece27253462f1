use Rattle.std.proofs.Common.{rules}
use Rattle.layers.proofs.Below.{write_reaches}
use Rattle.bench.proofs.through.write_joined.Goals as goal

pub returns : goal.returns
returns g c =
    let lows = g.L.Bus.cells in
    let highs = g.R.Bus.cells in
    let low_shapes = g.L.Bus.shape in
    let high_shapes = g.R.Bus.shape in
    let j = c.args.join.now in
    let k = c.write.new.self in
    let below = (write_reaches c.args.address c.args.byte).join j.boundary k.boundary (lows j.low) (highs j.high) (lows k.low) (highs k.high) (low_shapes j.low) (high_shapes j.high) (low_shapes k.low) (high_shapes k.high) (search rules) (search rules) in
    record { answer = search rules; kept = search rules; low = below.1; high = below.2 }

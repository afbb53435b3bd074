use Rattle.std.proofs.Common.{◌*◌, ◌≤◌, mul-le-mul, arith}
use Rattle.code.proofs.code.Code.at.Goals as goal

pub overflow_add-server : goal.overflow_add-server
overflow_add-server g c =
    let code = c.args.self.now in
    let few : c.args.server ≤ 6 = omega (arith, code.most_servers) in
    let product : c.args.server * code.objects ≤ 6 * 6 = mul-le-mul few code.most_objects in
    omega (arith, code.most_objects)

-- A server that may tell, as the rules see it. Assumes nothing.
use Rattle.rules.specs.State as rules
use Rattle.server.specs.Servers.{server}
use Rattle.teller.specs.declared.teller.Teller.{Teller}

abbrev pub teller : Teller → rules.Server
teller t = server t.server

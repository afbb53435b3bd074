use Rattle.wire.proofs.Figures.{byte_figures}
use Rattle.rules.proofs.Figures.{small_run}
use Rattle.figures.proofs.Codes as codes
use Rattle.figures.proofs.figures_hold.Goals as goal

pub returns : goal.returns
returns c = record {
  figures = record {
    inverse_of_2 = codes.inverse;
    product_of_2_and_128 = codes.product;
    symbol_at_3 = codes.at_3;
    symbol_at_4 = codes.at_4;
    servers_3_and_4_recover_1 = codes.recovered;
    servers_3_and_4_do_not_recover_0 = codes.not_recovered;
    messages_as_bytes = byte_figures;
    a_small_run = small_run;
  };
}

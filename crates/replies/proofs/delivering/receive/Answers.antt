use Rattle.std.proofs.Common.{None, ap, ◌∙◌}
use Rattle.terms.specs.Items.{items}
use Rattle.code.specs.Meaning as code
use Rattle.rules.specs.Turns.{Outcome}
use Rattle.server.specs.Servers.{server}
use Rattle.server.specs.Steps.{laid}
use Rattle.steps.specs.Local.{local}
use Rattle.steps.specs.Reading.{found_of}
use Rattle.replies.proofs.Messages.{fit_range, plain_cells, taken_as}
use Rattle.replies.proofs.Sending.{tag_notice_object}
use Rattle.replies.proofs.delivering.receive.Goals as goal

pub note_write-requires : goal.note_write-requires
note_write-requires g c = fit_range (laid (code.meaning g.F.Field.arithmetic c.args.code.now) 0) c.args.m _ c.in-WriteNotice.is c.requires.fit

pub invariant_of-x : goal.invariant_of-x
invariant_of-x g c = record { within = tag_notice_object c.in-TagNotice.object c.in-TagNotice.tag (fit_range (laid (code.meaning g.F.Field.arithmetic c.args.code.now) 0) c.args.m _ c.in-TagNotice.is c.requires.fit) }

pub answer-requires : goal.answer-requires
answer-requires g c = fit_range (laid (code.meaning g.F.Field.arithmetic c.args.code.now) 0) c.args.m _ c.in-Question.is c.requires.fit

pub invariant_of-take_plain : goal.invariant_of-take_plain
invariant_of-take_plain g c =
    record { some_cells = plain_cells c.in-PlainReply.read (items c.in-PlainReply.value) (fit_range (laid (code.meaning g.F.Field.arithmetic c.args.code.now) 0) c.args.m _ c.in-PlainReply.is c.requires.fit) }

pub returns-in-WriteNotice : goal.returns-in-WriteNotice
returns-in-WriteNotice g c =
    let k = code.meaning g.F.Field.arithmetic c.args.code.now in
    record {
      taken =
          taken_as k (server c.args.p.now.server) c.args.from.number c.args.me.number c.args.back_free _ c.args.m _ c.in-WriteNotice.is (record {
            found = found_of None;
            allowed = λ _. tt;
            step = λ places. c.silent.ensures.said _ ∙ c.note_write.ensures (laid k places) c.args.me.number c.args.back_free (found_of None);
          });
    }

pub returns-in-TagNotice : goal.returns-in-TagNotice
returns-in-TagNotice g c =
    let k = code.meaning g.F.Field.arithmetic c.args.code.now in
    record {
      taken =
          taken_as k (server c.args.p.now.server) c.args.from.number c.args.me.number c.args.back_free _ c.args.m _ c.in-TagNotice.is (record {
            found = found_of None;
            allowed = λ _. tt;
            step = λ places. c.silent-in-TagNotice.ensures.said _ ∙ ap (λ q. local (Outcome 0) q None) c.hear.ensures.after;
          });
    }

pub returns-in-Question : goal.returns-in-Question
returns-in-Question g c =
    let k = code.meaning g.F.Field.arithmetic c.args.code.now in
    record {
      taken =
          taken_as k (server c.args.p.now.server) c.args.from.number c.args.me.number c.args.back_free _ c.args.m _ c.in-Question.is (record {
            found = found_of None;
            allowed = λ _. tt;
            step = λ places. c.answer.ensures.step places c.args.from.number (found_of None);
          });
    }

pub returns-in-PlainReply : goal.returns-in-PlainReply
returns-in-PlainReply g c =
    let k = code.meaning g.F.Field.arithmetic c.args.code.now in
    record {
      taken =
          taken_as k (server c.args.p.now.server) c.args.from.number c.args.me.number c.args.back_free _ c.args.m _ c.in-PlainReply.is (record {
            found = found_of None;
            allowed = λ _. tt;
            step = λ places. c.silent-in-PlainReply.ensures.said _ ∙ c.take_plain.ensures (laid k places);
          });
    }

pub returns-in-CodedReply : goal.returns-in-CodedReply
returns-in-CodedReply g c =
    let k = code.meaning g.F.Field.arithmetic c.args.code.now in
    record {
      taken =
          taken_as k (server c.args.p.now.server) c.args.from.number c.args.me.number c.args.back_free _ c.args.m _ c.in-CodedReply.is (record {
            found = c.take_coded.ensures.found;
            allowed = c.take_coded.ensures.allowed;
            step = λ places. c.silent-in-CodedReply.ensures.said _ ∙ c.take_coded.ensures.step places;
          });
    }

use Rattle.front_walk.proofs.laws.known_laws.Goals as goal

pub returns-clause-laws : goal.returns-clause-laws
returns-clause-laws c = record {
  comes = c.comings_line_by_line.ensures.comes;
  left = c.comings_line_by_line.ensures.left;
  first = c.comings_line_by_line.ensures.first;
  due = c.queries_are_numbered.ensures.due;
  docs = c.queries_are_numbered.ensures.docs;
  left_asked = c.comings_in_order.ensures.left;
  more = c.queries_are_numbered.ensures.more;
}

pub returns-clause-next : goal.returns-clause-next
returns-clause-next c = record { is = c.the_next_query.ensures.is; due = c.the_next_query.ensures.due; docs = c.the_next_query.ensures.docs }

pub returns-clause-counts : goal.returns-clause-counts
returns-clause-counts c = record { none = c.comings_line_by_line.ensures.none; comings = c.each_query_has_a_reply.ensures.comings; numbers = c.queries_are_numbered.ensures.numbers }

pub mod KindMeaning
